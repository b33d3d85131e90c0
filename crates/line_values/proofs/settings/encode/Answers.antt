-- `encode` meets its contract: each `return` is a case of `encodeOf`. Assumes nothing.
use mathlib.Core.Path.{sym, ap, ◌∙◌}
use Rattle.language.specs.Meaning.{encode_hex, encode_byte}
use Rattle.line_values.specs.Inside.Line.{line_from}
use Rattle.line_values.proofs.Encoding.{no_byte, hex_byte_lem, no_second, second, itself, byte_fits}
use Rattle.line_values.proofs.settings.encode.Goals as goal

pub returns-then-argument-eq0 : goal.returns-then-argument-eq0
unfolding line_from
returns-then-argument-eq0 c = ap line_from (sym (no_byte _ c.if-argument-eq0.true))

pub overflow_cast-result : goal.overflow_cast-result
overflow_cast-result c = record { fits = byte_fits _ (sym c.in-Ok.is ∙ c.hex_byte.ensures) }

pub returns-in-Ok : goal.returns-in-Ok
unfolding line_from encode_hex
returns-in-Ok c =
    ap line_from (sym (hex_byte_lem _ c.if-argument-eq0.false c.if-first-eq58.true ∙ ap encode_hex
    (sym c.hex_byte.ensures ∙ c.in-Ok.is)))

pub returns-in-Err : goal.returns-in-Err
unfolding line_from encode_hex
returns-in-Err c =
    ap line_from (sym (hex_byte_lem _ c.if-argument-eq0.false c.if-first-eq58.true ∙ ap encode_hex
    (sym c.hex_byte.ensures ∙ c.in-Err.is)))

pub returns-then-argument-eq1 : goal.returns-then-argument-eq1
unfolding line_from encode_byte
returns-then-argument-eq1 c = ap line_from (sym (no_second _ c.if-argument-eq0.false c.if-first-eq58.false c.if-first-eq47.true c.if-argument-eq1.true))

pub returns-then-first-eq47 : goal.returns-then-first-eq47
unfolding line_from encode_byte
returns-then-first-eq47 c = ap line_from (sym (second _ c.if-argument-eq0.false c.if-first-eq58.false c.if-first-eq47.true c.if-argument-eq1.false))

pub returns : goal.returns
unfolding line_from
returns c = ap line_from (sym (itself _ c.if-argument-eq0.false c.if-first-eq58.false c.if-first-eq47.false))
