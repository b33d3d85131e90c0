-- `reading::fill` meets its contract: what a read brings stands behind what came before. Assumes nothing.
use Rattle.std.proofs.Common.{rules, ap, sym, subst, ◌∙◌, ◌≡◌, ℕ, ◌+◌, ◌≤◌, ◌++◌, List, length, take, length-take-le, le_refl}
use Rattle.std.proofs.KnownBytes.{Consumes-trans, Consumes-kept}
use Rattle.std.proofs.lemmas.List.{take-append-le, places}
use Rattle.std.proofs.lemmas.Slice.{take-put_mid_below}
use Rattle.std.proofs.Math.Seq.{take-append-add}
use Rattle.std.specs.Io.KnownBytes.{Consumes}
use borrow.Rule.Slice.PartMut.{put_mid}
use Rattle.console.proofs.reading.fill.Goals.{in-Ok, in-Err}
use Rattle.console.proofs.reading.fill.Goals as goal

-- after n bytes were put at a, those up to there
take-put : (xs ys : List ℕ) (a k n : ℕ) → a ≤ length xs → n ≤ length ys → take (a + n) (put_mid a k xs ys) ≡ take a xs ++ take n ys
take-put xs ys a k n p q =
    ap (λ m. take (m + n) (put_mid a k xs ys)) (sym (length-take-le a xs p)) ∙ take-append-add (take a xs) _ n ∙ ap (λ l. take a xs ++ l) (take-append-le n ys _ q)

pub loop-preserved : goal.loop-preserved
loop-preserved g c =
    let before = c.loop.invariant in
    elim c.match-read.branch [
      | in-Ok w ↦ let read = w.in-Ok.ensures in (
        search (rules, places),
        rw w.n-is
            (subst (Consumes _ _) (sym (take-put c.loop.room c.read.new.buf c.loop.n _ w.in-Ok.came before.0 read.bound.0))
            (Consumes-trans _ _ _ _ _ before.1 read.bytes.0)),
      )
      | in-Err w ↦ (
        search (rules, places),
        rw w.n-is
            (subst (Consumes _ _) (sym (take-put_mid_below c.loop.n _ c.loop.room c.read.new.buf c.loop.n (le_refl _) before.0))
            (Consumes-kept _ _ _ _ before.1 w.in-Err.ensures.bytes)),
      )
    ]
