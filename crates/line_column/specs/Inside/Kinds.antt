-- An argument of one word, by the name that it stands behind: its reader, and how many of its bytes can be taken.
use Rattle.std.specs.Prelude.{ℕ, List}
use Rattle.language.specs.Clock.{clock_of}
use Rattle.language.specs.Script.{Meaning}
use Rattle.language.specs.Meaning.{loop_of, byte_of, time_of, clock_says, rts_of, ex_in, lfext_of}
use Rattle.language.specs.Column.{loop_taken, time_taken, number_taken, clock_taken, rts_taken, in_taken, lfext_taken}
use Rattle.line_column.specs.declared.arguments.Kind.{Kind}
use Rattle.line_column.specs.declared.arguments.Kind.TheVariants.{Loop, Time, Byte, Clock, Rts, Ex, Lfext}

-- its reader
abbrev pub reader_of : Kind → List ℕ → Meaning
reader_of Loop = loop_of
reader_of Time = time_of
reader_of Byte = byte_of
reader_of Clock = λ a. clock_says (clock_of a)
reader_of Rts = rts_of
reader_of Ex = ex_in
reader_of Lfext = lfext_of

-- how many of its bytes can be taken
abbrev pub taken_of : Kind → List ℕ → ℕ
taken_of Loop = loop_taken
taken_of Time = time_taken
taken_of Byte = number_taken
taken_of Clock = clock_taken
taken_of Rts = rts_taken
taken_of Ex = in_taken
taken_of Lfext = lfext_taken
