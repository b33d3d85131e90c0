-- What the code tells of a meaning: the meaning without its data, and the data beside it.
use Rattle.std.specs.Prelude.{ℕ, List, [], ◌∷◌, length, Result, Ok, Err}
use Rattle.language.specs.declared.TextFault.{TextFault}
use Rattle.language.specs.Script.{Meaning, comment, blank, process, set_ex, says, set_encode, set_stopbits, set_omit, set_lfext, fault, data_of}
use Rattle.language.specs.Table.{cell_for}
use Rattle.line_values.specs.declared.Line.{Line}
use Rattle.line_values.specs.declared.Line.TheVariants.{Comment, Blank, Process, Ex, Says, Encode, Stopbits, Omit, Lfext}

-- one to three letters, zeros after them
unfoldable pub letters_from : List ℕ → List ℕ
letters_from [] = 0 ∷ 0 ∷ 0 ∷ []
letters_from (a ∷ []) = a ∷ 0 ∷ 0 ∷ []
letters_from (a ∷ b ∷ []) = a ∷ b ∷ 0 ∷ []
letters_from (a ∷ b ∷ c ∷ more) = a ∷ b ∷ c ∷ []

-- a meaning without its data: a statement's cell has them at place 0
unfoldable pub line_from : Meaning → Result Line TextFault
line_from comment = Ok Comment
line_from blank = Ok Blank
line_from process = Ok Process
line_from set_ex = Ok Ex
line_from (says s) = Ok (Says (cell_for 0 s))
line_from (set_encode b) = Ok (Encode b)
line_from (set_stopbits two) = Ok (Stopbits two)
line_from (set_omit bs) = Ok (Omit (length bs))
line_from (set_lfext e) = Ok (Lfext (letters_from e))
line_from (fault f) = Err f

-- the data of a meaning
unfoldable pub data_from : Meaning → List ℕ
data_from comment = []
data_from blank = []
data_from process = []
data_from set_ex = []
data_from (says s) = data_of s
data_from (set_encode b) = []
data_from (set_stopbits two) = []
data_from (set_omit bs) = bs
data_from (set_lfext e) = []
data_from (fault f) = []
