-- `lfext_taken` meets its contract: each turn of the loop is a law on its state, `Lettering`. Assumes nothing.
use mathlib.Core.Path.{◌≡◌, sym, ◌∙◌}
use native.Mathlib.Omega.{arith}
use lib.ListN.{length}
use Rattle.language.specs.Column.{lfext_taken}
use Rattle.line_column.proofs.Lettering.{begun, word_ended, enough, no_letter, letter}
use Rattle.line_column.proofs.taken.lfext_taken.Goals.{then-i-ge-LETTERS-via-then-i-ge-LETTERS, then-i-ge-LETTERS-via-else-i-ge-LETTERS+then-not-is_capital}
use Rattle.line_column.proofs.taken.lfext_taken.Goals as goal

pub loop-i-init : goal.loop-i-init
loop-i-init c = begun

pub returns-then-i-ge-LETTERS : goal.returns-then-i-ge-LETTERS
unfolding lfext_taken
returns-then-i-ge-LETTERS c =
    elim c.then-i-ge-LETTERS.branch [
      | then-i-ge-LETTERS-via-then-i-ge-LETTERS w ↦ enough c.loop-i.invariant c.loop-i-test.true w.if-i-ge-LETTERS.true
      | then-i-ge-LETTERS-via-else-i-ge-LETTERS+then-not-is_capital w ↦
          no_letter c.loop-i.invariant c.loop-i-test.true w.if-i-ge-LETTERS.false w.to_ascii_uppercase.ensures.value w.is_capital.ensures w.if-not-is_capital.true
    ]

pub loop-i-preserved : goal.loop-i-preserved
loop-i-preserved c =
    letter c.loop-i.invariant c.loop-i-test.true c.if-i-ge-LETTERS.false c.to_ascii_uppercase.ensures.value c.is_capital.ensures
    c.if-not-is_capital.false

pub returns : goal.returns
unfolding lfext_taken
returns c =
    let e : c.loop-i.i ≡ length c.args.word.now = omega arith in
    sym e ∙ word_ended c.loop-i.invariant c.loop-i-test.false
