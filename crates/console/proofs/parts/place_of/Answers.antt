-- `parts::place_of` meets its contract: a place from `from` on is one of the rest. Assumes nothing.
use Rattle.std.proofs.Common.{rules, ℕ, ◌-◌}
use Rattle.std.proofs.lemmas.List.{get_or-drop}
use Rattle.console.proofs.parts.place_of.Goals as goal

pub returns-clause-before : goal.returns-clause-before
returns-clause-before c k below from is = c.place_in.ensures.before (k - c.args.from) (search rules) (search (rules, get_or-drop))
