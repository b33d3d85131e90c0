-- Data and text behind a name: what each way on has found of the bytes from a place on. Assumes nothing.
use Rattle.std.specs.Prelude.{Ok, Err}
use Prim.Native.Nat.{ℕ, suc, ◌+◌, ◌≤◌, ◌<◌}
use mathlib.Core.Path.{◌≡◌, refl, ap, ◌∙◌}
use mathlib.Core.Bool.{cond, false}
use mathlib.Core.List.{List}
use native.Mathlib.Numerals.{add-one}
use native.Mathlib.Omega.{arith}
use lib.Dec.{eqb}
use lib.ListN.{length, drop, get_or, drop_of_length-le, length-drop}
use lib.Seq.{drop-cons}
use borrow.Author.Tests.{eq-eqb, ne_eqb}
use Rattle.numbers.specs.Inside.Moved.{moved_on}
use Rattle.numbers.specs.Number.{NumberRead}
use Rattle.numbers.specs.declared.Number.{Number}
use Rattle.hex_data.specs.Hex.{Said, good, bad, hex_at, said_place, counted, hex_byte_at, byte_place}
use Rattle.hex_data.specs.Inside.Said.{moved_said}
use Rattle.hex_data.proofs.Moved.{hex_at_moved, hex_byte_at_moved}
use Rattle.language.specs.Column.{hex_taken, marked_taken, encode_taken, signs_taken, log_taken}

-- ---- hex data

all_said : (at end : ℕ) (x : Said) {n : ℕ} → Ok n ≡ counted 0 (moved_said at x) → said_place end x ≡ end
unfolding moved_said counted said_place
all_said at end (good bs) e = refl
all_said at end (bad k) e = let z : ◌≡◌ {A = ℕ} 0 1 = cc in absurd (omega arith)

said_to : (at end : ℕ) (x : Said) {place : ℕ} → Err place ≡ counted 0 (moved_said at x) → place ≡ at + said_place end x
unfolding moved_said counted said_place
said_to at end (good bs) e = let z : ◌≡◌ {A = ℕ} 0 1 = cc in absurd (omega arith)
said_to at end (bad k) e = cc

module _ (s : List ℕ) (at : ℕ) where
  pub hex_all : {n : ℕ} → at ≤ length s → Ok n ≡ counted 0 (hex_at s at) → length s ≡ at + hex_taken (drop at s)
  unfolding hex_taken
  hex_all h e = omega (arith, length-drop at s, all_said at (length (drop at s)) (hex_at (drop at s) 0) (e ∙ ap (counted 0) (hex_at_moved s at)))

  pub hex_to : {place : ℕ} → Err place ≡ counted 0 (hex_at s at) → place ≡ at + hex_taken (drop at s)
  unfolding hex_taken
  hex_to e = said_to at (length (drop at s)) (hex_at (drop at s) 0) (e ∙ ap (counted 0) (hex_at_moved s at))

-- ---- nothing is left

module _ (s : List ℕ) (at : ℕ) (outside : length s ≤ at) where
  pub nothing_marked : at ≡ at + marked_taken (drop at s)
  unfolding marked_taken
  nothing_marked = let e : marked_taken (drop at s) ≡ 0 = rw (drop_of_length-le s outside) in omega arith

  pub nothing_encoded : at ≡ at + encode_taken (drop at s)
  unfolding encode_taken
  nothing_encoded = let e : encode_taken (drop at s) ≡ 0 = rw (drop_of_length-le s outside) in omega arith

  pub nothing_logged : at ≡ at + log_taken (drop at s)
  unfolding log_taken
  nothing_logged = let e : log_taken (drop at s) ≡ 0 = rw (drop_of_length-le s outside) in omega arith

-- ---- one or two hex digits

byte_all : (at end : ℕ) (x : NumberRead) {n : Number} → Ok n ≡ moved_on at x → byte_place end x ≡ end
unfolding moved_on byte_place
byte_all at end (Ok n) e = refl
byte_all at end (Err k) e = let z : ◌≡◌ {A = ℕ} 0 1 = cc in absurd (omega arith)

byte_to : (at end : ℕ) (x : NumberRead) {place : ℕ} → Err place ≡ moved_on at x → place ≡ at + byte_place end x
unfolding moved_on byte_place
byte_to at end (Ok n) e = let z : ◌≡◌ {A = ℕ} 0 1 = cc in absurd (omega arith)
byte_to at end (Err k) e = cc

-- ---- a byte is left

module _ (s : List ℕ) (at : ℕ) (inside : at < length s) where
  -- how many are left behind it
  behind : length s ≡ at + suc (length (drop (at + 1) s))
  behind = omega (arith, length-drop (at + 1) s)

  some_marked : marked_taken (drop at s)
      ≡ cond (eqb (get_or s at 0) 47) (suc (length (drop (at + 1) s))) (cond (eqb (get_or s at 0) 58) (suc (hex_taken (drop (at + 1) s))) 0)
  unfolding marked_taken
  some_marked = rw (add-one at, drop-cons s at 0)

  pub text_marked : get_or s at 0 ≡ 47 → length s ≡ at + marked_taken (drop at s)
  text_marked e =
      let m : marked_taken (drop at s) ≡ suc (length (drop (at + 1) s)) = some_marked ∙ rw (eq-eqb _ _ e) in
      omega (arith, behind)

  module _ (n : get_or s at 0 ≡ 47 → ⊥) where
    pub hex_marked : get_or s at 0 ≡ 58 → at + 1 + hex_taken (drop (at + 1) s) ≡ at + marked_taken (drop at s)
    hex_marked e =
        let m : marked_taken (drop at s) ≡ suc (hex_taken (drop (at + 1) s)) = some_marked ∙ rw (ne_eqb _ _ n, eq-eqb _ _ e) in
        omega arith

    pub unmarked : (get_or s at 0 ≡ 58 → ⊥) → at ≡ at + marked_taken (drop at s)
    unmarked e =
        let m : marked_taken (drop at s) ≡ 0 = some_marked ∙ rw (ne_eqb _ _ n, ne_eqb _ _ e) in
        omega arith

  some_encoded : encode_taken (drop at s)
      ≡ cond (eqb (get_or s at 0) 58) (suc (byte_place (length (drop (at + 1) s)) (hex_byte_at (drop (at + 1) s) 0))) (suc (length (drop (at + 1) s)))
  unfolding encode_taken
  some_encoded = rw (add-one at, drop-cons s at 0)

  module _ (e : get_or s at 0 ≡ 58) where
    digits : encode_taken (drop at s) ≡ suc (byte_place (length (drop (at + 1) s)) (hex_byte_at (drop (at + 1) s) 0))
    digits = some_encoded ∙ rw (eq-eqb _ _ e)

    pub digits_all : {n : Number} → Ok n ≡ hex_byte_at s (at + 1) → length s ≡ at + encode_taken (drop at s)
    digits_all p = omega (arith, behind, digits, byte_all (at + 1) (length (drop (at + 1) s)) (hex_byte_at (drop (at + 1) s) 0) (p ∙ hex_byte_at_moved s (at + 1)))

    pub digits_to : {place : ℕ} → Err place ≡ hex_byte_at s (at + 1) → place ≡ at + encode_taken (drop at s)
    digits_to p = omega (arith, digits, byte_to (at + 1) (length (drop (at + 1) s)) (hex_byte_at (drop (at + 1) s) 0) (p ∙ hex_byte_at_moved s (at + 1)))

  pub byte_encoded : (get_or s at 0 ≡ 58 → ⊥) → length s ≡ at + encode_taken (drop at s)
  byte_encoded n =
      let m : encode_taken (drop at s) ≡ suc (length (drop (at + 1) s)) = some_encoded ∙ rw (ne_eqb _ _ n) in
      omega (arith, behind)

  some_logged : log_taken (drop at s) ≡ cond (eqb (get_or s at 0) 32) (suc (signs_taken (drop (at + 1) s) false)) 0
  unfolding log_taken
  some_logged = rw (add-one at, drop-cons s at 0)

  pub no_space : (get_or s at 0 ≡ 32 → ⊥) → at ≡ at + log_taken (drop at s)
  no_space n =
      let m : log_taken (drop at s) ≡ 0 = some_logged ∙ rw (ne_eqb _ _ n) in
      omega arith

  pub one_space : get_or s at 0 ≡ 32 → at + 1 + signs_taken (drop (at + 1) s) false ≡ at + log_taken (drop at s)
  one_space e =
      let m : log_taken (drop at s) ≡ suc (signs_taken (drop (at + 1) s) false) = some_logged ∙ rw (eq-eqb _ _ e) in
      omega arith
