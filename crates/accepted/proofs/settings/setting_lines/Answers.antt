-- `accepted::settings::setting_lines` meets its contract. Assumes nothing.
use mathlib.Core.Path.{ap, ◌∙◌}
use mathlib.Core.Bool.{not}
use native.Mathlib.Omega.{arith}
use lib.Dec.{ltb}
use Rattle.reader.specs.Ascii.{ascii}
use Rattle.reader.specs.Bytes.{same}
use Rattle.language.specs.Table.{letters_of}
use Rattle.accepted.specs.Inside.Heads.{count_if, settings_in}
use Rattle.accepted.proofs.Counts.{counted, one_line}
use Rattle.accepted.proofs.settings.setting_lines.Goals as goal

pub returns : goal.returns
unfolding settings_in
returns c =
    let h = c.args.heads in
    let encode = c.from.ensures ∙ counted h.encodes in
    let stopbits = c.from-2.ensures ∙ counted h.two_stop_bits in
    let omit = c.from-3.ensures ∙ counted (ltb 0 h.omits) in
    let other = not (same (letters_of h.extension) (ascii "LOG")) in
    let lfext = c.from-4.ensures ∙ (counted _ ∙ ap count_if c.other_letters.ensures) in (
      omega (arith, encode, stopbits, omit, lfext),
      omega (arith, encode, stopbits, omit, lfext, one_line h.encodes, one_line h.two_stop_bits, one_line (ltb 0 h.omits), one_line other),
    )
