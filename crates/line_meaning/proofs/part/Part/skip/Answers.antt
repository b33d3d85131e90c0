-- `skip` meets its contract: the place behind the blanks is within the part. Assumes nothing.
use mathlib.Core.Path.{ap, ◌∙◌}
use lib.ListN.{drop}
use Rattle.words.proofs.Places.{blanks_drop}
use Rattle.line_values.proofs.Cuts.{from_within}
use Rattle.line_meaning.proofs.part.Part.skip.Goals as goal

pub after-requires : goal.after-requires
after-requires c = from_within _ c.after_blanks.ensures

pub returns : goal.returns
returns c = c.after.ensures ∙ ap (λ n. drop n c.args.self.bytes.now) c.after_blanks.ensures ∙ blanks_drop c.args.self.bytes.now 0
