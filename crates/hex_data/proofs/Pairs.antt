-- A hex digit at a place, one or two digits, and the step of a byte, as the code reads them, against the definitions there. Assumes nothing.
use Prim.Native.Nat.{ℕ, ◌+◌, ◌*◌, ◌≤◌, ◌<◌}
use Rattle.std.specs.Prelude.{Option, Some, None, Err, IfSome}
use mathlib.Core.Path.{◌≡◌, refl, sym, ap, subst, ◌∙◌}
use mathlib.Core.Bool.{Bool, true, false, cond}
use mathlib.Core.List.{List, [], ◌∷◌}
use native.Mathlib.Decide.{dec_lt}
use native.Mathlib.Numerals.{add-one}
use native.Mathlib.Omega.{arith}
use lib.ListN.{length, drop, get_or, drop_of_length-le}
use lib.Seq.{drop-cons}
use lib.Dec.{ltb}
use borrow.Author.Tests.{lt-ltb, le-ltb, ltb-true}
use Rattle.reader.specs.Bytes.{digit_of, digit_value, is_blank}
use Rattle.reader.proofs.Digits.{told_digit, told_none}
use Rattle.numbers.specs.Number.{value_at}
use Rattle.hex_data.specs.Hex.{HexStep, Refuse, Skip, First, Whole, step_of, hex_second, hex_byte_of, hex_byte_at}
use Rattle.hex_data.specs.Inside.Steps.{first_digit, begun, stepped}
use Rattle.hex_data.specs.declared.Step.{Step}
use Rattle.hex_data.specs.declared.Step.TheVariants.{Parts, Begins, Ends}

-- ---- a digit at a place

-- a digit that stands at a place
pub record Shown (s : List ℕ) (at d : ℕ) : Type 0 where
  pub inside : at < length s
  pub is : d ≡ digit_of (get_or s at 0)
  pub small : d < 16

pub digit_past : (s : List ℕ) (at : ℕ) → length s ≤ at → None ≡ first_digit (drop at s)
unfolding first_digit
digit_past s at h = rw (drop_of_length-le s h)

pub digit_here : (s : List ℕ) (at : ℕ) → at < length s → digit_value (get_or s at 0) ≡ first_digit (drop at s)
unfolding first_digit
digit_here s at h = rw (drop-cons s at 0 h)

pub shown : (s : List ℕ) (at : ℕ) {d : ℕ} → Some d ≡ first_digit (drop at s) → Shown s at d
shown s at {d} e = go (dec_lt at (length s))
  where
    go : Dec (at < length s) → Shown s at d
    go (yes h) = let t = told_digit (get_or s at 0) (e ∙ sym (digit_here s at h)) in record { inside = h; is = t.0; small = t.1 }
    go (no p) =
        let n : Some d ≡ None = e ∙ sym (digit_past s at (omega arith)) in
        let z : ◌≡◌ {A = ℕ} 0 1 = cc in
        absurd (omega arith)

-- ---- one or two digits

byte_gone_go : (l : List ℕ) (at : ℕ) → None ≡ first_digit l → Err at ≡ hex_byte_of l at
unfolding first_digit hex_byte_of
byte_gone_go [] at e = refl
byte_gone_go (b ∷ rest) at e = simp (le-ltb _ _ (told_none b e))

pub byte_gone : (s : List ℕ) (at : ℕ) → None ≡ first_digit (drop at s) → Err at ≡ hex_byte_at s at
unfolding hex_byte_at
byte_gone s at e = byte_gone_go (drop at s) at e

second_gone : (h : ℕ) (l : List ℕ) (at : ℕ) → None ≡ first_digit l → hex_second h l at ≡ value_at h at
unfolding first_digit hex_second
second_gone h [] at e = refl
second_gone h (b ∷ rest) at e = simp (le-ltb _ _ (told_none b e))

module _ {s : List ℕ} {at h : ℕ} (high : Shown s at h) where
  on_high : hex_byte_at s at ≡ hex_second h (drop (at + 1) s) (at + 1)
  unfolding hex_byte_at hex_byte_of
  on_high = rw (add-one at, drop-cons s at 0 high.inside) (simp (← high.is, lt-ltb _ _ high.small, add-one))

  pub one_digit : None ≡ first_digit (drop (at + 1) s) → value_at h (at + 1) ≡ hex_byte_at s at
  one_digit e = sym (on_high ∙ second_gone h (drop (at + 1) s) (at + 1) e)

  pub two_digits : {d : ℕ} → Shown s (at + 1) d → value_at (h * 16 + d) (at + 1 + 1) ≡ hex_byte_at s at
  unfolding hex_second
  two_digits low = sym (on_high ∙ rw (drop-cons s (at + 1) 0 low.inside) (simp (← low.is, lt-ltb _ _ low.small)))

-- ---- what a byte does after the first digit of a pair, if one is begun

-- the first digit of a pair, where it is a digit
abbrev pub Small : Option ℕ → Type 0
Small half = IfSome half (λ h. h < 16)

pub small : {half : Option ℕ} {h : ℕ} → half ≡ Some h → Small half → h < 16
small e s = subst Small e s

module _ (b : ℕ) {half : Option ℕ} where
  pub step_pair : {h d : ℕ} → half ≡ Some h → h < 16 → Some d ≡ digit_value b → Whole (h * 16 + d) ≡ step_of (begun half) b
  unfolding step_of
  step_pair is k e = let t = told_digit b e in rw is (simp (← t.0, lt-ltb _ _ t.1, lt-ltb _ _ k))

  pub step_first : {d : ℕ} → half ≡ None → Some d ≡ digit_value b → First d ≡ step_of (begun half) b
  unfolding step_of
  step_first is e = let t = told_digit b e in rw is (simp (← t.0, lt-ltb _ _ t.1))

  pub step_lone : {h : ℕ} → half ≡ Some h → h < 16 → None ≡ digit_value b → is_blank b ≡ true → Whole h ≡ step_of (begun half) b
  unfolding step_of
  step_lone is k e t = rw is (simp (le-ltb _ _ (told_none b e), t, lt-ltb _ _ k))

  pub step_parts : half ≡ None → None ≡ digit_value b → is_blank b ≡ true → Skip ≡ step_of (begun half) b
  unfolding step_of
  step_parts is e t = rw is (simp (le-ltb _ _ (told_none b e), t))

pub step_refused : (half b : ℕ) → None ≡ digit_value b → is_blank b ≡ false → Refuse ≡ step_of half b
unfolding step_of
step_refused half b e t = simp (le-ltb _ _ (told_none b e), t)

-- a byte that begins a pair is a digit
pub first_small : (half b : ℕ) {d : ℕ} → First d ≡ step_of half b → d < 16
unfolding step_of
first_small half b {d} e = go (ltb (digit_of b) 16) refl (ltb half 16) (is_blank b) e
  where
    go : (t : Bool) → ltb (digit_of b) 16 ≡ t → (u v : Bool)
        → First d ≡ cond t (cond u (Whole (half * 16 + digit_of b)) (First (digit_of b))) (cond v (cond u (Whole half) Skip) Refuse) → d < 16
    go true k true v f = let z : ◌≡◌ {A = ℕ} 0 1 = cc in absurd (omega arith)
    go true k false v f = let i : d ≡ digit_of b = cc in rw i (ltb-true _ _ k)
    go false k true true f = let z : ◌≡◌ {A = ℕ} 0 1 = cc in absurd (omega arith)
    go false k false true f = let z : ◌≡◌ {A = ℕ} 0 1 = cc in absurd (omega arith)
    go false k u false f = let z : ◌≡◌ {A = ℕ} 0 1 = cc in absurd (omega arith)

-- what the code is told of a byte, by the definition
module _ {o : Option Step} {x : HexStep} (told : stepped o ≡ x) where
  pub refused_told : o ≡ None → Refuse ≡ x
  refused_told e = sym (ap stepped e) ∙ told

  pub parts_told : {s : Step} → o ≡ Some s → s ≡ Parts → Skip ≡ x
  parts_told e f = sym (ap stepped (e ∙ ap Some f)) ∙ told

  pub begins_told : {s : Step} {h : ℕ} → o ≡ Some s → s ≡ Begins h → First h ≡ x
  begins_told e f = sym (ap stepped (e ∙ ap Some f)) ∙ told

  pub ends_told : {s : Step} {b : ℕ} → o ≡ Some s → s ≡ Ends b → Whole b ≡ x
  ends_told e f = sym (ap stepped (e ∙ ap Some f)) ∙ told
