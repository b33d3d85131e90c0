-- A number with nothing after it.
use Rattle.std.specs.Prelude.{ℕ, cond, List, eqb, length, Result, Ok, Err}
use Rattle.numbers.specs.Number.{NumberRead}
use Rattle.language.specs.declared.TextFault.{TextFault}
use Rattle.language.specs.declared.TextFault.TheVariants.{BadRest}

-- a number with nothing after it
unfoldable pub whole : List ℕ → NumberRead → Result ℕ TextFault
whole a (Ok n) = cond (eqb n.next (length a)) (Ok n.value) (Err BadRest)
whole a (Err at) = Err BadRest
