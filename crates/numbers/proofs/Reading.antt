-- The state of `number`'s loop, and one law for each way on from it. Assumes nothing.
use Prim.Native.Nat.{ℕ, ◌+◌, ◌-◌, ◌*◌, ◌≤◌, ◌<◌}
use Rattle.std.specs.Prelude.{Err, None}
use mathlib.Core.Path.{◌≡◌, sym, ap, ◌∙◌}
use mathlib.Core.List.{List}
use native.Mathlib.Numerals.{add-one}
use native.Mathlib.Omega.{arith}
use lib.ListN.{drop}
use lib.Seq.{drop-cons}
use borrow.Author.Tests.{lt-ltb, le-ltb, le-leb, lt-leb}
use Rattle.numbers.specs.Number.{value_at, digits_ended, number_go, number_at}
use Rattle.numbers.specs.Inside.Decimal.{decimal_at}
use Rattle.numbers.proofs.Digit.{Shown, number_ends}

-- what the whole says is what the bytes from `i` on say, after the digits before it with the value `v`
pub record Reading (most limit : ℕ) (s : List ℕ) (at v i : ℕ) : Type 0 where
  pub within : v ≤ limit
  pub from : at ≤ i
  pub whole : number_at most limit s at ≡ number_go most limit (drop i s) (i - at) v i

pub begun : {most limit : ℕ} {s : List ℕ} {at : ℕ} → Reading most limit s at 0 at
unfolding number_at
begun {most} {limit} {s} {at} =
    let z : 0 ≡ at - at = omega arith in
    record { within = omega arith; from = omega arith; whole = ap (λ (n : ℕ). number_go most limit (drop at s) n 0 at) z }

module _ {most limit : ℕ} {s : List ℕ} {at v i : ℕ} (w : Reading most limit s at v i) where
  module _ (none : None ≡ decimal_at s i) where
    ended : number_at most limit s at ≡ digits_ended (i - at) v i
    ended = w.whole ∙ number_ends most limit s i (i - at) v none

    pub nothing_read : i ≡ at → Err at ≡ number_at most limit s at
    unfolding digits_ended
    nothing_read e =
        let z : i - at ≡ 0 = omega arith in
        sym (ended ∙ rw (z, e))

    pub number_read : (i ≡ at → ⊥) → value_at v i ≡ number_at most limit s at
    unfolding digits_ended
    number_read n =
        let z : 0 < i - at = omega (arith, w.from) in
        sym (ended ∙ simp (lt-ltb _ _ z))

  module _ {d : ℕ} (there : Shown s i d) where
    pub too_long : most ≤ i - at → Err i ≡ number_at most limit s at
    unfolding number_go
    too_long k = sym (w.whole ∙ rw (drop-cons s i 0 there.inside) (simp (← there.is, lt-ltb _ _ there.small, le-ltb _ _ k)))

    -- `x` and `y` are what the code has made of `v` and `d`
    module _ {x y : ℕ} (few : i - at < most) (isv : x ≡ v) (isd : y ≡ d) where
      pub too_large : limit < x * 10 + y → Err i ≡ number_at most limit s at
      unfolding number_go
      too_large l =
          let k : limit < v * 10 + d = rw (isv, isd) at l in
          sym (w.whole ∙ rw (drop-cons s i 0 there.inside) (simp (← there.is, lt-ltb _ _ there.small, lt-ltb _ _ few, lt-leb _ _ k)))

      pub taken : x * 10 + y ≤ limit → Reading most limit s at (x * 10 + y) (i + 1)
      unfolding number_go
      taken l =
          let k : v * 10 + d ≤ limit = rw (isv, isd) at l in
          let n : i + 1 - at ≡ i - at + 1 = omega (arith, w.from) in
          record {
            within = l;
            from = omega (arith, w.from);
            whole =
                w.whole
                ∙ rw (n, isv, isd, add-one i, drop-cons s i 0 there.inside) (simp (← there.is, lt-ltb _ _ there.small, lt-ltb _ _ few, le-leb _ _ k, add-one));
          }
