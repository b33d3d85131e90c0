-- The ways out of the tests over the cells. Assumes nothing.
use Rattle.std.specs.Prelude.{Option, Some}
use Rattle.std.specs.Option.{option_eq}
use Prim.Native.Nat.{ℕ, ◌≤◌, ◌<◌}
use mathlib.Core.Path.{◌≡◌, refl, sym, ap, ◌∙◌}
use mathlib.Core.Bool.{Bool, true, false, true≢false, ◌&&◌}
use mathlib.Core.List.{List}
use lib.ListN.{take, drop}
use borrow.Author.Tests.{le-leb, lt-leb, eq-eqb, ne_eqb, eqb-true}
use lib.Dec.{eqb, leb}
use Rattle.reader.proofs.Tests.{and_false}
use Rattle.language.specs.Limits.{data_limit}
use Rattle.accepted.specs.Inside.Heads.{all_zero}
use Rattle.accepted.specs.Inside.EndsFit.{reaches}
use Rattle.accepted.specs.Inside.Cells.{words_fit, words_end, cells_fit}
use Rattle.accepted.specs.Inside.CellsFit.{words_reach}

module _ (n : ℕ) (cells pool : List ℕ) (used : ℕ) where
  abbrev end : ℕ
  end = words_end 0 (take n cells)

  pub too_much : data_limit < used → false ≡ cells_fit n cells pool used
  unfolding cells_fit
  too_much d = go (words_fit pool 0 (take n cells)) (all_zero (drop n cells)) (eqb used end)
    where
      go : (a b c : Bool) → false ≡ (a && (b && (c && (leb used data_limit && all_zero (drop used pool)))))
      go a b c = rw (lt-leb used data_limit d, and_false c, and_false b, and_false a)

  module _ {r : Option ℕ} (told : r ≡ words_reach pool 0 (take n cells)) {q : Bool} (same : q ≡ option_eq eqb r (Some used)) where
    reached : q ≡ option_eq eqb (reaches (words_fit pool 0 (take n cells)) end) (Some used)
    unfolding words_reach
    reached = same ∙ ap (λ (x : Option ℕ). option_eq eqb x (Some used)) told

    pub other_end : q ≡ false → false ≡ cells_fit n cells pool used
    unfolding cells_fit
    other_end e = go (words_fit pool 0 (take n cells)) (all_zero (drop n cells)) (sym reached ∙ e)
      where
        go : (f z : Bool) → option_eq eqb (reaches f end) (Some used) ≡ false → false ≡ (f && (z && (eqb used end && (leb used data_limit && all_zero (drop used pool)))))
        go false z h = refl
        go true z h = rw (ne_eqb used end (λ k. true≢false (sym (eq-eqb end used (sym k)) ∙ h)), and_false z)

    module _ (here : q ≡ true) where
      passed : (words_fit pool 0 (take n cells) ≡ true) × (end ≡ used)
      passed = go (words_fit pool 0 (take n cells)) (sym reached ∙ here)
        where
          go : (f : Bool) → option_eq eqb (reaches f end) (Some used) ≡ true → (f ≡ true) × (end ≡ used)
          go true h = (refl, eqb-true end used h)
          go false h = absurd (true≢false (sym h))

      module _ {t : Bool} (tested : t ≡ all_zero (drop n cells)) where
        pub cells_behind : t ≡ false → false ≡ cells_fit n cells pool used
        unfolding cells_fit
        cells_behind f = rw (passed.0, sym tested ∙ f)

        pub cells_clean : used ≤ data_limit → t ≡ true → {z : Bool} → z ≡ all_zero (drop used pool) → z ≡ cells_fit n cells pool used
        unfolding cells_fit
        cells_clean few f b = b ∙ rw (passed.0, sym tested ∙ f, eq-eqb used end (sym passed.1), le-leb used data_limit few)
