-- Two digits from a place on: the definition there, with the digits that the code has read. Assumes nothing.
use Prim.Native.Nat.{ℕ, ◌+◌, ◌*◌, ◌≤◌, ◌<◌}
use Rattle.std.specs.Prelude.{Err, None}
use mathlib.Core.Path.{◌≡◌, sym, ◌∙◌}
use mathlib.Core.Bool.{cond, ◌&&◌}
use mathlib.Core.List.{List}
use native.Mathlib.Numerals.{add-one}
use lib.Dec.{leb}
use lib.ListN.{drop}
use lib.Seq.{drop-cons}
use borrow.Author.Tests.{lt-ltb, le-leb, lt-leb}
use Rattle.numbers.specs.Number.{value_at, second_of, pair_of, pair_at}
use Rattle.numbers.specs.Inside.Decimal.{decimal_at}
use Rattle.numbers.proofs.Digit.{Shown, second_ends}

module _ (low high : ℕ) {s : List ℕ} {at d : ℕ} (tens : Shown s at d) where
  on_tens : pair_at low high s at ≡ cond (leb low (d * 10 + 9) && leb (d * 10) high) (second_of low high d (drop (at + 1) s) (at + 1)) (Err at)
  unfolding pair_at pair_of
  on_tens = rw (add-one at, drop-cons s at 0 tens.inside) (simp (← tens.is, lt-ltb _ _ tens.small, add-one))

  pub tens_low : d * 10 + 9 < low → Err at ≡ pair_at low high s at
  tens_low h = sym (on_tens ∙ simp (lt-leb _ _ h))

  module _ (l : low ≤ d * 10 + 9) where
    pub tens_high : high < d * 10 → Err at ≡ pair_at low high s at
    tens_high h = sym (on_tens ∙ simp (le-leb _ _ l, lt-leb _ _ h))

    module _ (h : d * 10 ≤ high) where
      to_units : pair_at low high s at ≡ second_of low high d (drop (at + 1) s) (at + 1)
      to_units = on_tens ∙ simp (le-leb _ _ l, le-leb _ _ h)

      pub units_none : None ≡ decimal_at s (at + 1) → Err (at + 1) ≡ pair_at low high s at
      units_none e = sym (to_units ∙ second_ends low high d s (at + 1) e)

      module _ {e : ℕ} (units : Shown s (at + 1) e) where
        on_units : pair_at low high s at ≡ cond (leb low (d * 10 + e) && leb (d * 10 + e) high) (value_at (d * 10 + e) (at + 1 + 1)) (Err (at + 1))
        unfolding second_of
        on_units = to_units ∙ rw (drop-cons s (at + 1) 0 units.inside) (simp (← units.is, lt-ltb _ _ units.small))

        pub units_low : d * 10 + e < low → Err (at + 1) ≡ pair_at low high s at
        units_low k = sym (on_units ∙ simp (lt-leb _ _ k))

        module _ (k : low ≤ d * 10 + e) where
          pub units_high : high < d * 10 + e → Err (at + 1) ≡ pair_at low high s at
          units_high m = sym (on_units ∙ simp (le-leb _ _ k, lt-leb _ _ m))

          pub pair_read : d * 10 + e ≤ high → value_at (d * 10 + e) (at + 1 + 1) ≡ pair_at low high s at
          pair_read m = sym (on_units ∙ simp (le-leb _ _ k, le-leb _ _ m))
