-- Counts and times: what each way on has found of the argument. Assumes nothing.
use Rattle.std.specs.Prelude.{Result, Ok, Err}
use Prim.Native.Nat.{ℕ, zero, suc, ◌+◌, ◌-◌, ◌*◌, ◌≤◌, ◌<◌}
use mathlib.Core.Path.{◌≡◌, refl, sym, ap, ◌∙◌}
use mathlib.Core.Bool.{Bool, true, false, cond}
use mathlib.Core.List.{List, [], ◌∷◌}
use native.Mathlib.Omega.{arith}
use lib.Dec.{ltb, leb, eqb}
use lib.ListN.{length, take, drop}
use borrow.Author.Tests.{le-leb, lt-leb, eq-eqb, ne_eqb}
use Rattle.reader.specs.Ascii.{ascii}
use Rattle.reader.specs.Bytes.{digit_of, same}
use Rattle.numbers.specs.Number.{NumberRead, value_at, digits_ended, number_go, number_at}
use Rattle.numbers.specs.declared.Number.{Number}
use Rattle.language.specs.declared.TextFault.{TextFault}
use Rattle.reader.proofs.Tests.{by_cases}
use Rattle.reader.proofs.Same.{same_is}
use Rattle.language.specs.declared.TextFault.TheVariants.{BadRest}
use Rattle.language.specs.Script.{Statement, loop, wait_time, wait_byte, says, fault}
use Rattle.language.specs.Meaning.{number_says, number, loop_of, byte_of, time_in, time_by, time_of}
use Rattle.language.proofs.Reading.{number_reads}
use Rattle.line_values.specs.Inside.WholeNumber.{whole}
use Rattle.line_values.proofs.Cuts.{to_end}

-- ---- a number with nothing after it

module _ (a : List ℕ) {n : Number} {x : NumberRead} (told : Ok n ≡ x) where
  pub all_read : n.next ≡ length a → Ok n.value ≡ whole a x
  unfolding whole
  all_read e = rw (sym told, eq-eqb n.next (length a) e)

  pub surplus : (n.next ≡ length a → ⊥) → Err BadRest ≡ whole a x
  unfolding whole
  surplus e = rw (sym told, ne_eqb n.next (length a) e)

pub no_digits : (a : List ℕ) {at : ℕ} {x : NumberRead} → Err at ≡ x → Err BadRest ≡ whole a x
unfolding whole
no_digits a told = rw (sym told)

value_choice : (t : Bool) (v w : ℕ) → ◌≡◌ {A = Result ℕ TextFault} (Ok v) (cond t (Ok w) (Err BadRest)) → (t ≡ true) × (v ≡ w)
value_choice true v w e = (refl, cc)
value_choice false v w e = let z : ◌≡◌ {A = ℕ} 0 1 = cc in absurd (omega arith)

fault_choice : (t : Bool) (f : TextFault) (w : ℕ) → ◌≡◌ {A = Result ℕ TextFault} (Err f) (cond t (Ok w) (Err BadRest)) → (t ≡ false) × (f ≡ BadRest)
fault_choice true f w e = let z : ◌≡◌ {A = ℕ} 0 1 = cc in absurd (omega arith)
fault_choice false f w e = (refl, cc)

module _ (s : ℕ → Statement) (a : List ℕ) where
  pub number_read : (n : NumberRead) {v : ℕ} → Ok v ≡ whole a n → number_says s a n ≡ says (s v)
  unfolding number_says whole
  number_read (Ok n) {v} e =
      let p = value_choice (eqb n.next (length a)) v n.value e in
      rw p.0 (ap (λ (x : ℕ). says (s x)) (sym p.1))
  number_read (Err at) e = let z : ◌≡◌ {A = ℕ} 0 1 = cc in absurd (omega arith)

  pub number_refused : (n : NumberRead) {f : TextFault} → Err f ≡ whole a n → number_says s a n ≡ fault f
  unfolding number_says whole
  number_refused (Ok n) {f} e =
      let p = fault_choice (eqb n.next (length a)) f n.value e in
      rw p.0 (ap fault (sym p.1))
  number_refused (Err at) {f} e = let p : f ≡ BadRest = cc in ap fault (sym p)

-- ---- LOOP and WAIT BYTE

pub loop_nothing : (a : List ℕ) → length a ≡ 0 → loop_of a ≡ says (loop 0)
unfolding loop_of same
loop_nothing [] h = refl
loop_nothing (b ∷ l) h = absurd (omega arith)

pub loop_ever_lem : (a : List ℕ) → same a (ascii "EVER") ≡ true → loop_of a ≡ says (loop 0)
unfolding loop_of same
loop_ever_lem a e = ap loop_of (same_is a (ascii "EVER") e)

pub loop_number : (a : List ℕ) → (length a ≡ 0 → ⊥) → same a (ascii "EVER") ≡ false → loop_of a ≡ number_says loop a (number_at 5 60000 a 0)
unfolding loop_of number same
loop_number [] h e = absurd (h refl)
loop_number (b ∷ l) h e = rw e

pub byte_nothing : (a : List ℕ) → length a ≡ 0 → byte_of a ≡ says (wait_byte 1)
unfolding byte_of same
byte_nothing [] h = refl
byte_nothing (b ∷ l) h = absurd (omega arith)

pub byte_number : (a : List ℕ) → (length a ≡ 0 → ⊥) → byte_of a ≡ number_says wait_byte a (number_at 5 60000 a 0)
unfolding byte_of number same
byte_number [] h = absurd (h refl)
byte_number (b ∷ l) h = refl

-- ---- the units of a time

module _ (u : List ℕ) (v : ℕ) where
  pub no_unit : length u ≡ 0 → time_in u v ≡ says (wait_time (v * 1000))
  no_unit h = go u h
    where
      go : (u : List ℕ) → length u ≡ 0 → time_in u v ≡ says (wait_time (v * 1000))
      go [] h = unfold time_in same in refl
      go (b ∷ l) h = absurd (omega arith)

  pub in_ms : same u (ascii "MS") ≡ true → time_in u v ≡ says (wait_time v)
  unfolding time_in same
  in_ms e = ap (λ (w : List ℕ). time_in w v) (same_is u (ascii "MS") e)

  pub in_s : same u (ascii "S") ≡ true → time_in u v ≡ says (wait_time (v * 1000))
  unfolding time_in same
  in_s e = ap (λ (w : List ℕ). time_in w v) (same_is u (ascii "S") e)

  pub in_m : same u (ascii "M") ≡ true → v ≤ 999 → time_in u v ≡ says (wait_time (v * 60000))
  unfolding time_in same
  in_m e h = ap (λ (w : List ℕ). time_in w v) (same_is u (ascii "M") e) ∙ rw (le-leb v 999 h)

  pub too_many_m : same u (ascii "M") ≡ true → 999 < v → time_in u v ≡ fault BadRest
  unfolding time_in same
  too_many_m e h = ap (λ (w : List ℕ). time_in w v) (same_is u (ascii "M") e) ∙ rw (lt-leb v 999 h)

  pub bad_unit : (length u ≡ 0 → ⊥) → same u (ascii "MS") ≡ false → same u (ascii "S") ≡ false → same u (ascii "M") ≡ false
      → time_in u v ≡ fault BadRest
  bad_unit h p q r = go u h p q r
    where
      go : (u : List ℕ) → (length u ≡ 0 → ⊥) → same u (ascii "MS") ≡ false → same u (ascii "S") ≡ false → same u (ascii "M") ≡ false
          → time_in u v ≡ fault BadRest
      go [] h p q r = absurd (h refl)
      go (b ∷ l) h p q r = unfold time_in in rw (p, q, r) (unfold same in refl)

-- ---- a number and its unit

-- the place after a number is within the bytes
Ends : ℕ → NumberRead → Type 0
Ends k (Ok n) = n.next ≤ k
Ends k (Err at) = Unit {0}

ends_later : (k m : ℕ) (n : NumberRead) → k ≤ m → Ends k n → Ends m n
unfolding Ends
ends_later k m (Ok n) h e = omega arith
ends_later k m (Err at) h e = tt

ended_ends : (k n v at : ℕ) → at ≤ k → Ends k (digits_ended n v at)
unfolding digits_ended Ends
ended_ends k n v at h = by_cases (Ends k) (ltb 0 n) (value_at v at) (Err at) (λ e. h) (λ e. tt)

number_ends : (most limit : ℕ) (l : List ℕ) (n v at : ℕ) → Ends (at + length l) (number_go most limit l n v at)
unfolding number_go Ends
number_ends most limit [] n v at = ended_ends (at + 0) n v at (omega arith)
number_ends most limit (b ∷ rest) n v at =
    let w : ℕ = v * 10 + digit_of b in
    let k : ℕ = at + suc (length rest) in
    by_cases (Ends k) (ltb (digit_of b) 10) _ (digits_ended n v at)
    (λ e. by_cases (Ends k) (ltb n most) _ (Err at)
    (λ e₁. by_cases (Ends k) (leb w limit) (number_go most limit rest (n + 1) w (at + 1)) (Err at)
    (λ e₂. ends_later (at + 1 + length rest) k (number_go most limit rest (n + 1) w (at + 1)) (omega arith) (number_ends most limit rest (n + 1) w (at + 1)))
    (λ e₂. tt)) (λ e₁. tt))
    (λ e. ended_ends k n v at (omega arith))

module _ (a : List ℕ) {n : Number} (told : Ok n ≡ number_at 5 60000 a 0) where
  pub time_small : n.value ≤ 60000
  time_small = rw (sym told) at (number_reads 5 60000 a 0)

  pub time_within : n.next ≤ length a
  unfolding number_at Ends
  time_within = let h : Ends (0 + length a) (Ok n) = rw (sym told) at (number_ends 5 60000 a 0 0 0) in omega arith

  pub time_number : time_of a ≡ time_in (take (length a - n.next) (drop n.next a)) n.value
  unfolding time_of time_by
  time_number = rw (sym told, to_end a n.next)

module _ (a : List ℕ) {at : ℕ} (told : Err at ≡ number_at 5 60000 a 0) where
  pub no_number : at ≡ 0 → time_of a ≡ time_in a 1
  unfolding time_of time_by
  no_number e = rw (sym told, e)

  pub bad_number : (at ≡ 0 → ⊥) → time_of a ≡ fault BadRest
  unfolding time_of
  bad_number h = ap (time_by a) (sym told) ∙ go at h
    where
      go : (k : ℕ) → (k ≡ 0 → ⊥) → time_by a (Err k) ≡ fault BadRest
      go zero h = absurd (h refl)
      go (suc k) h = unfold time_by in refl
