-- `take_text` meets its contract: a text that is too long is refused, and else its lines and its end decide. Assumes nothing.
use Rattle.std.proofs.Common.{sym}
use Rattle.compiler.proofs.Long.{too_long}
use Rattle.compiler.proofs.Folding.{deep}
use Rattle.compiler.proofs.Ending.{never_broken}
use Rattle.compiler.proofs.drafting.Drafting.take_text.Goals as goal

pub returns-then-text-gt-TEXT : goal.returns-then-text-gt-TEXT
returns-then-text-gt-TEXT c = rw c.at.ensures (sym (too_long c.args.text.now c.if-text-gt-TEXT.true))

pub finish-requires : goal.finish-requires
finish-requires c =
    let e = c.take_lines.ensures.none c.in_ok-take_lines.was in
    (deep e, λ none k. never_broken e.sound e.stands (none e.st e.stands) k)
