-- `signs_taken` meets its contract: each turn of the loop is a law on its state, `Signing`. Assumes nothing.
use mathlib.Core.Path.{◌≡◌, refl, sym, ap, ◌∙◌}
use mathlib.Core.Bool.{not}
use lib.ListN.{length}
use native.Mathlib.Omega.{arith}
use Rattle.reader.proofs.Tests.{true_is_false}
use Rattle.line_column.proofs.Signing.{text_ended, no_sign, sign, plain, renamed}
use Rattle.line_column.proofs.texts.signs_taken.Goals as goal
use Rattle.line_column.proofs.texts.signs_taken.Goals.{else-marked-via-then-marked+else-not-is_sign, else-marked-via-else-marked, then-not-marked, else-not-marked}

pub loop-i-init : goal.loop-i-init
loop-i-init c = record { whole = refl }

pub returns-then-not-is_sign : goal.returns-then-not-is_sign
returns-then-not-is_sign c = no_sign c.loop-i.invariant c.loop-i-test.true c.if-marked.true c.is_sign.ensures c.if-not-is_sign.true

pub loop-i-preserved : goal.loop-i-preserved
loop-i-preserved c =
    let w = c.loop-i.invariant in
    elim c.else-marked.branch [
      | else-marked-via-then-marked+else-not-is_sign a ↦
          elim c.if-not-marked.branch [
            | then-not-marked b ↦ true_is_false (sym a.if-marked.true ∙ b.if-not-marked.true)
            | else-not-marked b ↦ renamed (b.marked-is ∙ ap not a.if-marked.true) (sign w c.loop-i-test.true a.if-marked.true a.is_sign.ensures a.if-not-is_sign.false)
          ]
      | else-marked-via-else-marked a ↦
          elim c.if-not-marked.branch [
            | then-not-marked b ↦ renamed b.marked-is (plain w c.loop-i-test.true a.if-marked.false)
            | else-not-marked b ↦ true_is_false (sym b.if-not-marked.false ∙ a.if-marked.false)
          ]
    ]

pub returns : goal.returns
returns c = let e : c.loop-i.i ≡ length c.args.line.now = omega (arith, c.requires) in sym e ∙ text_ended c.loop-i.invariant c.loop-i-test.false
