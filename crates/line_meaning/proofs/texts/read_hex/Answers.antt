-- `read_hex` meets its contract: there is room for the bytes. Assumes nothing.
use mathlib.Core.Path.{sym, ◌∙◌}
use native.Mathlib.Omega.{arith}
use Rattle.line_meaning.proofs.Filling.{hex_few, hex_bytes, hex_fault, found_few}
use Rattle.line_meaning.proofs.texts.read_hex.Goals as goal

pub overflow_cast-result : goal.overflow_cast-result
overflow_cast-result c =
    let h = found_few (hex_bytes _ _ c.told-bytes (hex_few _ c.args.text.fits)
    c.hex_into.ensures.1 (sym c.in-Ok.is ∙ c.hex_into.ensures.0)) in
    omega arith

pub returns-in-Ok : goal.returns-in-Ok
returns-in-Ok c =
    hex_bytes _ _ c.told-bytes (hex_few _ c.args.text.fits)
    c.hex_into.ensures.1 (sym c.in-Ok.is ∙ c.hex_into.ensures.0)

pub returns-in-Err : goal.returns-in-Err
returns-in-Err c =
    hex_fault _ _ c.told-bytes (hex_few _ c.args.text.fits)
    c.hex_into.ensures.1 (sym c.in-Err.is ∙ c.hex_into.ensures.0)
