-- THE END OF THE TEXT: an open loop, a stretch that is too long, or the table. Assumes nothing.
use Prim.Native.Nat.{ℕ, ◌≤◌}
use mathlib.Core.Path.{◌≡◌, refl, sym, ap, ap₂, ◌∙◌}
use mathlib.Core.Bool.{true}
use mathlib.Core.List.{List, [], ◌∷◌, append-nil}
use native.Mathlib.Omega.{arith}
use Rattle.std.specs.Prelude.{Ok, Err, Option, Some, None}
use Rattle.language.specs.declared.TextFault.TheVariants.{LoopLeftOpen, StretchTooLong}
use Rattle.language.specs.Limits.{data_limit}
use Rattle.language.specs.Script.{Item, processes}
use Rattle.language.specs.Stretch.{stretch_of}
use Rattle.language.specs.Column.{column_in}
use Rattle.language.specs.Draft.{Draft, refused_whole, stretched, finished}
use Rattle.language.specs.Right.{data_in, nests}
use Rattle.language.specs.Table.{laid_out}
use Rattle.language.specs.Answer.{refusal_of, answered}
use Rattle.language.proofs.SoundBody.{Sound}
use Rattle.stretch.specs.declared.StretchFault.TheVariants.{Over, Broken}
use Rattle.stretch.specs.Inside.Measured.{measured}
use Rattle.stretch.proofs.Verdicts.{script_largest, script_over, script_nests}
use Rattle.compiler.specs.declared.drafting.Drafting.{Drafting}
use Rattle.compiler.specs.Inside.Drafting.{script_in, first_of, IsDraft}
use Rattle.compiler.specs.Inside.Ending.{told}

module _ {st : Draft} {w : Drafting} (i : Sound 0 st) (h : IsDraft st w) where
  -- "loop open at .. the end of text: line of the innermost"
  pub open_end : (at : ℕ) → Some at ≡ first_of st.loops → told (Err (refusal_of LoopLeftOpen at (column_in [] LoopLeftOpen))) w.table ≡ answered (finished stretch_of (script_in st) st.loops)
  unfolding finished
  open_end at k = go st.loops k
    where
      go : (ls : List ℕ) → Some at ≡ first_of ls → answered (refused_whole LoopLeftOpen at) ≡ answered (finished stretch_of (script_in st) ls)
      go [] e = absurd (cc)
      go (l ∷ ls) e = let same : at ≡ l = cc in ap (λ (n : ℕ). answered (refused_whole LoopLeftOpen n)) same

  module _ (none : None ≡ first_of st.loops) where
    closed : st.loops ≡ []
    closed = go st.loops none
      where
        go : (ls : List ℕ) → ◌≡◌ {A = Option ℕ} None (first_of ls) → ls ≡ []
        go [] e = refl
        go (l ∷ ls) e = absurd (cc)

    nested : nests st.body 0 ≡ true
    unfolding nests
    nested = ap (λ (x : List Item). nests x 0) (sym (append-nil st.body)) ∙ i.nested [] ∙ rw closed

    bytes : data_in st.body ≤ data_limit
    bytes = omega (arith, i.used, i.bytes)

    laid : w.table.cells ≡ (laid_out (script_in st)).cells
    unfolding laid_out
    laid = h.words

    headed : w.table.heads ≡ (laid_out (script_in st)).heads
    unfolding laid_out
    headed = h.heads

    as_laid : measured w.table.cells w.table.heads ≡ measured (laid_out (script_in st)).cells (laid_out (script_in st)).heads
    as_laid = ap₂ measured laid headed

    -- with no loop open the stretches decide
    ending : finished stretch_of (script_in st) st.loops ≡ stretched stretch_of (processes st.body) 1 (script_in st)
    unfolding finished
    ending = rw closed

    pub largest_end : {k : ℕ} → measured w.table.cells w.table.heads ≡ Ok k → told (Ok k) w.table ≡ answered (finished stretch_of (script_in st) st.loops)
    unfolding answered laid_out
    largest_end {k} e =
        let v = script_largest (script_in st) i.rights bytes nested (sym as_laid ∙ e) in
        rw (ending, v.0, v.1, h.words, h.bytes, h.heads)

    pub over_end : {n : ℕ} → measured w.table.cells w.table.heads ≡ Err (Over n)
        → told (Err (refusal_of StretchTooLong n (column_in [] StretchTooLong))) w.table ≡ answered (finished stretch_of (script_in st) st.loops)
    over_end e = ap answered (sym (ending ∙ script_over (script_in st) i.rights bytes nested (sym as_laid ∙ e)))

    pub never_broken : {A : Type 0} → measured w.table.cells w.table.heads ≡ Err Broken → A
    never_broken e = absurd (script_nests (script_in st) i.rights bytes nested (sym as_laid ∙ e))
