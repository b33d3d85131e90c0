-- A line without a fault: what the code tells of a meaning tells whether it is one. Assumes nothing.
use mathlib.Core.Path.{◌≡◌, refl}
use Rattle.std.specs.Prelude.{is_ok}
use Rattle.language.specs.Script.{Meaning, comment, blank, process, set_ex, says, set_encode, set_stopbits, set_omit, set_lfext, fault}
use Rattle.language.specs.Column.{faultless}
use Rattle.line_values.specs.Inside.Line.{line_from}

pub told_faultless : (m : Meaning) → is_ok (line_from m) ≡ faultless m
unfolding line_from faultless
told_faultless comment = refl
told_faultless blank = refl
told_faultless process = refl
told_faultless set_ex = refl
told_faultless (says s) = refl
told_faultless (set_encode b) = refl
told_faultless (set_stopbits two) = refl
told_faultless (set_omit bs) = refl
told_faultless (set_lfext e) = refl
told_faultless (fault f) = refl
