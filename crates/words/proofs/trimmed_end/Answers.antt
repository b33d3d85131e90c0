-- `trimmed_end` meets its contract: what is counted off the end is the spaces and tabs there. Assumes nothing.
use Rattle.std.proofs.Common.{◌∙◌, reverse, arith}
use Rattle.words.proofs.Passing.{blanks_taken, blanks_last}
use Rattle.words.proofs.trimmed_end.Goals as goal

pub returns : goal.returns
returns c = omega (arith, c.last_blanks.ensures ∙ blanks_taken (reverse c.args.s.now), blanks_last c.args.s.now)
