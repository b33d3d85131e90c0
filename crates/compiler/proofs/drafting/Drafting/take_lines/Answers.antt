-- `take_lines` meets its contract: each turn of its two loops is a law on their states, `Folding` and `Scanning`. Assumes nothing.
use Rattle.std.proofs.Common.{arith, refl, sym, ◌∙◌, ◌<◌, ℕ, get_or}
use Rattle.compiler.proofs.Folding.{Lined, first, ready, passed, at_end_lem, overlong, in_line_lem, goes_on_lem, short, refuses, all_taken, at_fault}
use Rattle.compiler.proofs.drafting.Drafting.take_lines.Goals as goal
use Rattle.compiler.proofs.drafting.Drafting.take_lines.Goals.{After-next_feed-end}

-- where the line ends, at an LF or at the end of the text
lined : (c : After-next_feed-end) → Lined c.args.text.now c.lines.self c.lines.row c.lines.start c.next_feed-end.result
lined c = at_end_lem c.loop-lent.invariant.0 c.next_feed-end.ensures

-- a text is of bytes
bytes : (c : After-next_feed-end) (i : ℕ) → get_or c.args.text.now i 0 < 256
bytes c i = omega (arith, c.type_inv.text i)

pub lines-init : goal.lines-init
lines-init c = (first _ c.requires.0 c.requires.1, refl)

pub loop-lent-preserved : goal.loop-lent-preserved
loop-lent-preserved c = (passed c.loop-lent.invariant.0 (sym c.no_feed.ensures ∙ c.loop-lent-test.true), c.loop-lent.invariant.1)

pub take_line-requires : goal.take_line-requires
take_line-requires c =
    let g = (goal.at.take_line-requires c).After-next_feed-end in
    (ready (lined g).folding, in_line_lem _ (lined g) (bytes g) c.without_cr-line.ensures)

-- a line whose rest is wrong is read for its column
pub at-requires-in-Err : goal.at-requires-in-Err
at-requires-in-Err c =
    let g = (goal.at.at-requires-in-Err c).After-next_feed-end in
    short _ (lined g) (bytes g) c.without_cr-line.ensures _ _ c.take_line.ensures c.in-Err.is

pub lines-preserved : goal.lines-preserved
lines-preserved c =
    let g = (goal.at.lines-preserved c).After-next_feed-end in
    (goes_on_lem _ (lined g) (bytes g) c.without_cr-line.ensures _ _ c.take_line.ensures c.in_default.is, c.loop-lent.invariant.1)

-- after the last line
pub returns-after-lines : goal.returns-after-lines
returns-after-lines c = all_taken _ c.lines.invariant.0 c.lines-test.false c.lines.invariant.1

-- at a line that is too long
pub returns-then-clear-start-gt-LINE : goal.returns-then-clear-start-gt-LINE
returns-then-clear-start-gt-LINE c =
    rw c.at.ensures (at_fault _ _ (overlong c.loop-lent.invariant.0 (sym c.no_feed.ensures ∙ c.loop-lent-test.true) c.if-clear-start-gt-LINE.true))

-- at a line's fault
pub returns-in-Err : goal.returns-in-Err
returns-in-Err c =
    let g = (goal.at.returns-in-Err c).After-next_feed-end in
    rw c.at-in-Err.ensures (at_fault _ _ (refuses _ (lined g) (bytes g) c.without_cr-line.ensures _ _ c.take_line.ensures c.in-Err.is))
