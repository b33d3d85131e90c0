-- How many bytes data are, as the code answers it.
use Rattle.std.specs.Prelude.{ℕ, length, Result, Ok, Err}
use Rattle.hex_data.specs.Hex.{Said, good, bad}
use Rattle.language.specs.declared.TextFault.{TextFault}
use Rattle.language.specs.declared.TextFault.TheVariants.{BadRest}

-- how many bytes data are
unfoldable pub found : Said → Result ℕ TextFault
found (good bs) = Ok (length bs)
found (bad at) = Err BadRest
