-- `stopbits` meets its contract. Assumes nothing.
use Rattle.std.specs.Prelude.{Bool, Ok}
use mathlib.Core.Path.{ap}
use Rattle.language.specs.Meaning.{stopbits_of}
use Rattle.line_values.specs.Inside.Line.{line_from}
use Rattle.line_values.specs.declared.Line.TheVariants.{Stopbits}
use Rattle.line_values.proofs.settings.stopbits.Goals as goal

pub returns : goal.returns
unfolding line_from stopbits_of
returns c = ap (λ (t : Bool). Ok (Stopbits t)) c.is_name.ensures
