-- The compiler's answer for every text, and the numbers the bench reads back.
use Rattle.std.specs.Prelude as std
use Rattle.std.specs.Prelude.{ℕ, List, Ok, Err}
use Rattle.language.specs.declared.Refusal.{Refusal}
use Rattle.language.specs.declared.TextFault.{TextFault}
use Rattle.language.specs.declared.TextFault.TheVariants.{TextTooLong, LineTooLong, TooManyLines, NoSuchName, BadRest, TooMuchData, TooManyOmits, TooManyLoops, EndWithoutLoop, LoopLeftOpen, TooManyProcesses, StretchTooLong}
use Rattle.language.specs.declared.Compiled.{Compiled}
use Rattle.language.specs.Stretch.{stretch_of, largest}
use Rattle.language.specs.Draft.{Result, accepted, refused, result_of}
use Rattle.language.specs.Table.{laid_out, zero_table}

-- "Numbers the bench reads back", the rows of a text
unfoldable pub fault_number : TextFault → ℕ
fault_number TextTooLong = 12
fault_number LineTooLong = 1
fault_number TooManyLines = 2
fault_number NoSuchName = 3
fault_number BadRest = 4
fault_number TooMuchData = 5
fault_number TooManyOmits = 10
fault_number TooManyLoops = 6
fault_number EndWithoutLoop = 7
fault_number LoopLeftOpen = 8
fault_number TooManyProcesses = 9
fault_number StretchTooLong = 11

-- what the compiler answers, under a name that no constructor of a script's result has
abbrev pub CompilerAnswer : Type 0
CompilerAnswer = std.Result ℕ Refusal

-- a refusal by its parts
abbrev pub refusal_of : TextFault → ℕ → ℕ → Refusal
refusal_of f row column = record { fault = f; line = row; column = column }

-- a script is laid out and its stretch reported; "a table handed back by value with a refusal is all zeros"
unfoldable pub answered : Result → Compiled
answered (accepted s) = record { answer = Ok (largest s.body); table = laid_out s }
answered (refused f row column) = record { answer = Err (refusal_of f row column); table = zero_table }

-- what a text comes to, the stretch of a process being that of its written-out form
unfoldable pub script_from : List ℕ → Result
script_from text = result_of stretch_of text

-- the compiler's answer for every text
unfoldable pub compiled : List ℕ → Compiled
compiled text = answered (script_from text)
