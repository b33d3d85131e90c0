-- `take_line` meets its contract: each way on is a law of `Lining`. Assumes nothing.
use Rattle.std.proofs.Common.{refl, sym, ◌∙◌}
use Rattle.compiler.proofs.Lining.{long_stop, comment_on, many_stop, counted_within, said_fits, counts_on}
use Rattle.compiler.proofs.drafting.Drafting.take_line.Goals as goal

pub returns-then-line-gt-LINE : goal.returns-then-line-gt-LINE
returns-then-line-gt-LINE c = long_stop _ _ c.args.self.now _ c.if-line-gt-LINE.true

pub returns-then-is_comment : goal.returns-then-is_comment
returns-then-is_comment c = comment_on _ c.if-line-gt-LINE.false c.read_line-said.ensures.0 _ c.args.self.now (sym c.is_comment.ensures ∙ c.if-is_comment.true)

pub returns-then-from-ge-LINES : goal.returns-then-from-ge-LINES
returns-then-from-ge-LINES c =
    many_stop _ c.if-line-gt-LINE.false c.read_line-said.ensures.0 _ c.args.self.now _ (sym c.is_comment.ensures ∙ c.if-is_comment.false)
    (rw c.from.ensures at c.if-from-ge-LINES.true)

pub take-requires : goal.take-requires
take-requires c = (
  counted_within c.requires.0 (rw c.from.ensures at c.if-from-ge-LINES.false),
  rw c.in-Ok.is at (said_fits _ c.if-line-gt-LINE.false c.read_line-said.ensures.0 c.requires.1),
)

pub returns-in-Ok : goal.returns-in-Ok
returns-in-Ok c =
    counts_on _ c.if-line-gt-LINE.false c.read_line-said.ensures.0 _ c.args.self.now _ _ _ _ c.requires.1 c.read_line-said.ensures.1
    (sym c.is_comment.ensures ∙ c.if-is_comment.false) (rw c.from.ensures at c.if-from-ge-LINES.false) (rw c.in-Ok.is c.take.ensures)

pub returns-in-Err : goal.returns-in-Err
returns-in-Err c =
    counts_on _ c.if-line-gt-LINE.false c.read_line-said.ensures.0 _ c.args.self.now _ _ _ _ c.requires.1 c.read_line-said.ensures.1
    (sym c.is_comment.ensures ∙ c.if-is_comment.false) (rw c.from.ensures at c.if-from-ge-LINES.false) (rw c.in-Err.is refl)
