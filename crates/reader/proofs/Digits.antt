-- The cases of a byte: which digit it is, and that it is no space or tab. Assumes nothing.
use Prim.Native.Nat.{ℕ, ◌+◌, ◌-◌, ◌≤◌, ◌<◌}
use Rattle.std.specs.Prelude.{Some, None}
use mathlib.Core.Path.{◌≡◌, refl, sym, ◌∙◌}
use mathlib.Core.Bool.{Bool, true, false, cond}
use native.Mathlib.Omega.{arith}
use lib.Dec.{eqb, ltb}
use borrow.Author.Tests.{lt-ltb, le-ltb, ne_eqb, eqb-true, ltb-true, ltb-false}
use Rattle.reader.specs.Bytes.{digit_of, digit_value, is_blank}

pub digit_low : (b : ℕ) → b < 48 → 16 ≡ digit_of b
unfolding digit_of
digit_low b h = simp (lt-ltb b 48 h)

pub digit_decimal : (b : ℕ) → 48 ≤ b → b < 58 → b - 48 ≡ digit_of b
unfolding digit_of
digit_decimal b h k = simp (le-ltb b 48 h, lt-ltb b 58 k)

pub digit_between : (b : ℕ) → 58 ≤ b → b < 65 → 16 ≡ digit_of b
unfolding digit_of
digit_between b h k = simp (le-ltb b 48 (omega arith), le-ltb b 58 h, lt-ltb b 65 k)

pub digit_capital : (b : ℕ) → 65 ≤ b → b < 71 → b - 55 ≡ digit_of b
unfolding digit_of
digit_capital b h k = simp (le-ltb b 48 (omega arith), le-ltb b 58 (omega arith), le-ltb b 65 h, lt-ltb b 71 k)

pub digit_above : (b : ℕ) → 71 ≤ b → b < 97 → 16 ≡ digit_of b
unfolding digit_of
digit_above b h k =
    simp (le-ltb b 48 (omega arith), le-ltb b 58 (omega arith), le-ltb b 65 (omega arith), le-ltb b 71 h, lt-ltb b 97 k)

pub digit_small : (b : ℕ) → 97 ≤ b → b < 103 → b - 87 ≡ digit_of b
unfolding digit_of
digit_small b h k =
    simp
    (le-ltb b 48 (omega arith), le-ltb b 58 (omega arith), le-ltb b 65 (omega arith), le-ltb b 71 (omega arith), le-ltb b 97 h, lt-ltb b 103 k)

pub digit_high : (b : ℕ) → 103 ≤ b → 16 ≡ digit_of b
unfolding digit_of
digit_high b h =
    simp
    (le-ltb b 48 (omega arith), le-ltb b 58 (omega arith), le-ltb b 65 (omega arith), le-ltb b 71 (omega arith), le-ltb b 97 (omega arith), le-ltb b 103 h)

pub some_digit : (b : ℕ) {d : ℕ} → d < 16 → d ≡ digit_of b → Some d ≡ digit_value b
unfolding digit_value
some_digit b h e = simp (← e, lt-ltb _ _ h)

pub no_digit : (b : ℕ) → 16 ≡ digit_of b → None ≡ digit_value b
unfolding digit_value
no_digit b e = simp (← e)

-- what is told of a byte
pub told_digit : (b : ℕ) {d : ℕ} → Some d ≡ digit_value b → (d ≡ digit_of b) × (d < 16)
unfolding digit_value
told_digit b {d} e = go (ltb (digit_of b) 16) refl e
  where
    go : (t : Bool) → ltb (digit_of b) 16 ≡ t → Some d ≡ cond t (Some (digit_of b)) None → (d ≡ digit_of b) × (d < 16)
    go true k f = let i : d ≡ digit_of b = cc in (i, rw i (ltb-true _ _ k))
    go false k f = let z : ◌≡◌ {A = ℕ} 0 1 = cc in absurd (omega arith)

pub told_none : (b : ℕ) → None ≡ digit_value b → 16 ≤ digit_of b
unfolding digit_value
told_none b e = go (ltb (digit_of b) 16) refl e
  where
    go : (t : Bool) → ltb (digit_of b) 16 ≡ t → None ≡ cond t (Some (digit_of b)) None → 16 ≤ digit_of b
    go true k f = let z : ◌≡◌ {A = ℕ} 0 1 = cc in absurd (omega arith)
    go false k f = ltb-false _ _ k

pub digit_is : (d : ℕ) → d < 10 → digit_of (48 + d) ≡ d
digit_is d h =
    let e : 48 + d - 48 ≡ d = omega arith in
    sym (digit_decimal (48 + d) (omega arith) (omega arith)) ∙ e

pub no_blank : (b : ℕ) → 32 < b → is_blank b ≡ false
unfolding is_blank
no_blank b h =
    let p : b ≡ 32 → ⊥ = omega arith in
    let q : b ≡ 9 → ⊥ = omega arith in
    simp (ne_eqb b 32 p, ne_eqb b 9 q)

-- a space or a tab: what holds of both
pub of_blank : (P : ℕ → Type 0) → P 32 → P 9 → (b : ℕ) → is_blank b ≡ true → P b
unfolding is_blank
of_blank P space tab b h = go (eqb b 32) refl h
  where
    go : (t : Bool) → eqb b 32 ≡ t → cond t true (eqb b 9) ≡ true → P b
    go true e k = rw (eqb-true b 32 e) space
    go false e k = rw (eqb-true b 9 k) tab

-- neither is a digit
pub blank_digit : (b : ℕ) → is_blank b ≡ true → digit_of b ≡ 16
unfolding digit_of
blank_digit b h = of_blank (λ c. digit_of c ≡ 16) refl refl b h
