-- The decimal digit at a place, as the code finds it, against the definitions there. Assumes nothing.
use Prim.Native.Nat.{ℕ, ◌-◌, ◌≤◌, ◌<◌}
use Rattle.std.specs.Prelude.{Err, Some, None}
use mathlib.Core.Path.{◌≡◌, refl, sym, ap, ◌∙◌}
use mathlib.Core.Bool.{Bool, true, false, cond, ◌&&◌}
use mathlib.Core.List.{List, [], ◌∷◌}
use native.Mathlib.Decide.{dec_lt}
use native.Mathlib.Omega.{arith}
use lib.Dec.{ltb}
use lib.ListN.{length, drop, get_or, drop_of_length-le}
use lib.Seq.{drop-cons}
use borrow.Author.Tests.{lt-ltb, le-ltb, ltb-true, ltb-false}
use Rattle.reader.specs.Bytes.{digit_of}
use Rattle.reader.proofs.Digits.{digit_low, digit_decimal}
use Rattle.reader.proofs.Tests.{by_cases}
use Rattle.numbers.specs.Number.{digits_ended, number_go, second_of, pair_at, pair_of}
use Rattle.numbers.specs.Inside.Decimal.{first_decimal, decimal_at}

-- a digit that stands at a place
pub record Shown (s : List ℕ) (at d : ℕ) : Type 0 where
  pub inside : at < length s
  pub is : d ≡ digit_of (get_or s at 0)
  pub small : d < 10

pub decimal_none : (s : List ℕ) (at : ℕ) → length s ≤ at → None ≡ decimal_at s at
unfolding decimal_at first_decimal
decimal_none s at h = rw (drop_of_length-le s h)

pub decimal_here : (s : List ℕ) (at : ℕ) → at < length s
    → decimal_at s at ≡ cond (ltb (digit_of (get_or s at 0)) 10) (Some (digit_of (get_or s at 0))) None
unfolding decimal_at first_decimal
decimal_here s at h = rw (drop-cons s at 0 h)

no_some : {A : Type 0} {d : ℕ} → Some d ≡ None → A
no_some e = let z : ◌≡◌ {A = ℕ} 0 1 = cc in absurd (omega arith)

pub shown : (s : List ℕ) (at : ℕ) {d : ℕ} → Some d ≡ decimal_at s at → Shown s at d
shown s at {d} e = go (dec_lt at (length s))
  where
    here : at < length s → (t : Bool) → ltb (digit_of (get_or s at 0)) 10 ≡ t → Some d ≡ cond t (Some (digit_of (get_or s at 0))) None → Shown s at d
    here h true k f =
        let i : d ≡ digit_of (get_or s at 0) = cc in
        record { inside = h; is = i; small = rw i (ltb-true _ _ k) }
    here h false k f = no_some f

    go : Dec (at < length s) → Shown s at d
    go (yes h) = here h (ltb (digit_of (get_or s at 0)) 10) refl (e ∙ decimal_here s at h)
    go (no p) = no_some (e ∙ sym (decimal_none s at (omega arith)))

-- ---- `b` is the byte that the code has read there

above : (b : ℕ) → 58 ≤ b → 10 ≤ digit_of b
unfolding digit_of
above b h =
    rw (le-ltb b 48 (omega arith), le-ltb b 58 h)
    (by_cases (λ (n : ℕ). 10 ≤ n) (ltb b 65) 16 _ (λ e. omega arith)
    (λ e. by_cases (λ (n : ℕ). 10 ≤ n) (ltb b 71) (b - 55) _ (λ f. omega (arith, ltb-false b 65 e))
    (λ f. by_cases (λ (n : ℕ). 10 ≤ n) (ltb b 97) 16 _ (λ g. omega arith)
    (λ g. by_cases (λ (n : ℕ). 10 ≤ n) (ltb b 103) (b - 87) 16 (λ k. omega (arith, ltb-false b 97 g)) (λ k. omega arith)))))

module _ (s : List ℕ) (at b : ℕ) (inside : at < length s) (is : b ≡ get_or s at 0) where
  other : 10 ≤ digit_of b → None ≡ decimal_at s at
  other h =
      let k : 10 ≤ digit_of (get_or s at 0) = omega (arith, h, ap digit_of is) in
      sym (decimal_here s at inside ∙ simp (le-ltb _ _ k))

  pub byte_below : b < 48 → None ≡ decimal_at s at
  byte_below h = other (omega (arith, digit_low b h))

  pub byte_above : 58 ≤ b → None ≡ decimal_at s at
  byte_above h = other (above b h)

  pub byte_shown : 48 ≤ b → b < 58 → Some (b - 48) ≡ decimal_at s at
  byte_shown h k =
      let v : b - 48 ≡ digit_of (get_or s at 0) = digit_decimal b h k ∙ ap digit_of is in
      let small : b - 48 < 10 = omega arith in
      sym (decimal_here s at inside ∙ simp (← v, lt-ltb _ _ small))

-- ---- where none stands, nothing goes on

no_cond : {A : Type 0} (t : Bool) (b : ℕ) (x y : A) → None ≡ cond t (Some b) None → cond t x y ≡ y
no_cond true b x y e = no_some (sym e)
no_cond false b x y e = refl

no_both : {A : Type 0} (t u : Bool) (b : ℕ) (x y : A) → None ≡ cond t (Some b) None → cond (t && u) x y ≡ y
no_both true u b x y e = no_some (sym e)
no_both false u b x y e = refl

pub number_ends : (most limit : ℕ) (s : List ℕ) (i n v : ℕ) → None ≡ decimal_at s i → number_go most limit (drop i s) n v i ≡ digits_ended n v i
unfolding decimal_at first_decimal number_go
number_ends most limit s i n v e = go (drop i s) e
  where
    go : (l : List ℕ) → None ≡ first_decimal l → number_go most limit l n v i ≡ digits_ended n v i
    go [] f = refl
    go (b ∷ rest) f = no_cond (ltb (digit_of b) 10) (digit_of b) _ (digits_ended n v i) f

pub second_ends : (low high d : ℕ) (s : List ℕ) (at : ℕ) → None ≡ decimal_at s at → second_of low high d (drop at s) at ≡ Err at
unfolding decimal_at first_decimal second_of
second_ends low high d s at e = go (drop at s) e
  where
    go : (l : List ℕ) → None ≡ first_decimal l → second_of low high d l at ≡ Err at
    go [] f = refl
    go (b ∷ rest) f = no_both (ltb (digit_of b) 10) _ (digit_of b) _ (Err at) f

pub pair_ends : (low high : ℕ) (s : List ℕ) (at : ℕ) → None ≡ decimal_at s at → Err at ≡ pair_at low high s at
unfolding decimal_at first_decimal pair_at pair_of
pair_ends low high s at e = sym (go (drop at s) e)
  where
    go : (l : List ℕ) → None ≡ first_decimal l → pair_of low high l at ≡ Err at
    go [] f = refl
    go (b ∷ rest) f = no_both (ltb (digit_of b) 10) _ (digit_of b) _ (Err at) f
