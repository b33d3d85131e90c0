-- No. 3: "every compile refusal gives a column from 1: for 4 the first byte after which no ending, however long, makes the line right, or
-- the line's length plus one if there is none; 128 for 1, and 1 for all others; 0 for 12 and 11." How many bytes of a line can be taken is
-- said reader by reader, as `meaning` goes; that it is what the sentence asks is `ColumnTold`, which is proved of it.
use Rattle.std.specs.Prelude.{ℕ, zero, suc, ◌+◌, ◌≤◌, ◌<◌, ◌≡◌, Bool, true, false, cond, List, [], ◌∷◌, ◌++◌, length, take, drop, ltb, leb, eqb}
use Rattle.reader.specs.Ascii.{ascii}
use Rattle.reader.specs.Bytes.{same}
use Rattle.reader.specs.FirstBad.{CanEnd}
use Rattle.words.specs.Words.{skip, blanks, word_of, word_length, after_word}
use Rattle.numbers.specs.Number.{number_at, number_place}
use Rattle.hex_data.specs.Hex.{hex_at, hex_byte_at, said_place, byte_place}
use Rattle.language.specs.declared.TextFault.{TextFault}
use Rattle.language.specs.declared.TextFault.TheVariants.{TextTooLong, LineTooLong, TooManyLines, NoSuchName, BadRest, TooMuchData, TooManyOmits, TooManyLoops, EndWithoutLoop, LoopLeftOpen, TooManyProcesses, StretchTooLong}
use Rattle.language.specs.Clock.{clock_of}
use Rattle.language.specs.Script.{Meaning, comment, blank, process, set_ex, says, set_encode, set_stopbits, set_omit, set_lfext, fault}
use Rattle.language.specs.Limits.{line_limit, letter_limit}
use Rattle.language.specs.Meaning.{loop_of, byte_of, time_of, clock_says, rts_of, is_sign, is_capital, raised, lfext_of, ex_in, meaning}

-- a meaning that is no fault; a line by itself has none but 3 and 4, as is proved
unfoldable pub faultless : Meaning → Bool
faultless comment = true
faultless blank = true
faultless process = true
faultless set_ex = true
faultless (says s) = true
faultless (set_encode b) = true
faultless (set_stopbits two) = true
faultless (set_omit bs) = true
faultless (set_lfext e) = true
faultless (fault n) = false

-- "makes the line right"
unfoldable pub right_line : List ℕ → Bool
right_line l = faultless (meaning l)

-- ---- words: how many of their bytes can be taken

-- how far a word agrees with a name
unfoldable pub alike : List ℕ → List ℕ → ℕ
alike [] w = 0
alike (c ∷ name) [] = 0
alike (c ∷ name) (b ∷ w) = cond (eqb c b) (suc (alike name w)) 0

-- of two ways the one that takes more
unfoldable pub further : ℕ → ℕ → ℕ
further m n = cond (leb m n) n m

-- "One to five decimal digits, here and below", up to 60000
unfoldable pub number_taken : List ℕ → ℕ
number_taken w = number_place (number_at 5 60000 w 0)

-- "`#LOOP n`, n 0 to 60000; `EVER`"
unfoldable pub loop_taken : List ℕ → ℕ
loop_taken w = further (alike (ascii "EVER") w) (number_taken w)

-- a unit, MS, S or M: whatever begins with M may go on to MS
unfoldable pub unit_taken : List ℕ → ℕ
unit_taken w = further (alike (ascii "MS") w) (alike (ascii "S") w)

-- "Number and unit touch"
unfoldable pub time_taken : List ℕ → ℕ
time_taken w = number_taken w + unit_taken (drop (number_taken w) w)

-- "CLOCK's unit and digits"
unfoldable pub clock_taken : List ℕ → ℕ
clock_taken w = said_place (length w) (clock_of w)

-- "`#RTS ON`, `OFF`"
unfoldable pub rts_taken : List ℕ → ℕ
rts_taken w = further (alike (ascii "ON") w) (alike (ascii "OFF") w)

-- "`#f:EX1 IN` to `#f:EX4 IN`"
unfoldable pub in_taken : List ℕ → ℕ
in_taken w = alike (ascii "IN") w

-- letters or digits, `most` of them
unfoldable pub letters_taken : ℕ → List ℕ → ℕ
letters_taken most [] = 0
letters_taken zero (b ∷ w) = 0
letters_taken (suc most) (b ∷ w) = cond (is_capital (raised b)) (suc (letters_taken most w)) 0

-- "1 to 3 letters or digits"
unfoldable pub lfext_taken : List ℕ → ℕ
lfext_taken w = letters_taken letter_limit w

-- ---- what follows a name: how many of its bytes can be taken

-- an argument of one word, with its reader and what can be taken of it: the byte in it that cannot; where it is not right as it stands,
-- the blank behind it; else the next word
unfoldable pub in_word : (List ℕ → Meaning) → (List ℕ → ℕ) → List ℕ → ℕ
in_word reader taken s =
    cond (ltb (taken (word_of s)) (word_length s)) (taken (word_of s))
    (cond (faultless (reader (word_of s))) (word_length s + blanks (after_word s)) (word_length s))

-- hex data behind `:`
unfoldable pub hex_taken : List ℕ → ℕ
hex_taken l = said_place (length l) (hex_at l 0)

-- "`/` or `:` data"
unfoldable pub marked_taken : List ℕ → ℕ
marked_taken [] = 0
marked_taken (b ∷ l) = cond (eqb b 47) (suc (length l)) (cond (eqb b 58) (suc (hex_taken l)) 0)

-- "`:` and one or two hex digits, `/` then a byte, or the byte; more is ignored"
unfoldable pub encode_taken : List ℕ → ℕ
encode_taken [] = 0
encode_taken (b ∷ l) = cond (eqb b 58) (suc (byte_place (length l) (hex_byte_at l 0))) (suc (length l))

-- LOG's signs: the flag tells that `@` stands before
unfoldable pub signs_taken : List ℕ → Bool → ℕ
signs_taken [] at = 0
signs_taken (b ∷ l) true = cond (is_sign b) (suc (signs_taken l false)) 0
signs_taken (b ∷ l) false = suc (signs_taken l (eqb b 64))

-- "`#LOG`, one space, text"
unfoldable pub log_taken : List ℕ → ℕ
log_taken [] = 0
log_taken (b ∷ text) = cond (eqb b 32) (suc (signs_taken text false)) 0

-- behind the spaces and tabs at the front
unfoldable pub behind_blanks : (List ℕ → ℕ) → List ℕ → ℕ
behind_blanks taken rest = blanks rest + taken (skip rest)

-- a name, and what can be taken of what follows it
pub record Behind : Type 0 where
  pub word : List ℕ
  pub taken : List ℕ → ℕ

-- a name behind which blanks may stand, by its parts
abbrev pub behind : List ℕ → (List ℕ → ℕ) → Behind
behind w taken = record { word = w; taken = behind_blanks taken }

-- of the name that a word is; "surplus": blanks alone may follow any other
unfoldable pub taken_by : List Behind → List ℕ → List ℕ → ℕ
taken_by [] w rest = blanks rest
taken_by (n ∷ ns) w rest =
    let here = n.taken rest in
    let others = taken_by ns w rest in
    cond (same n.word w) here others

-- a name and what follows it
unfoldable pub named_taken : List Behind → List ℕ → ℕ
named_taken ns l = word_length l + taken_by ns (word_of l) (after_word l)

-- the second words after `#WAIT` that something may follow
unfoldable pub waits_behind : List Behind
waits_behind =
    behind (ascii "TIME") (in_word time_of time_taken)
    ∷ behind (ascii "DATA") marked_taken
    ∷ behind (ascii "BYTE") (in_word byte_of number_taken)
    ∷ behind (ascii "CLOCK") (in_word (λ a. clock_says (clock_of a)) clock_taken)
    ∷ []

-- the names that something may follow
unfoldable pub names_behind : List Behind
names_behind =
    behind (ascii "#LOOP") (in_word loop_of loop_taken)
    ∷ behind (ascii "#WAIT") (named_taken waits_behind)
    ∷ behind (ascii "#RTS") (in_word rts_of rts_taken)
    ∷ record { word = ascii "#LOG"; taken = log_taken }
    ∷ behind (ascii "#f:ENCODE") encode_taken
    ∷ behind (ascii "#f:EX1") (in_word ex_in in_taken)
    ∷ behind (ascii "#f:EX2") (in_word ex_in in_taken)
    ∷ behind (ascii "#f:EX3") (in_word ex_in in_taken)
    ∷ behind (ascii "#f:EX4") (in_word ex_in in_taken)
    ∷ behind (ascii "#f:OMIT") marked_taken
    ∷ behind (ascii "#f:LFEXT") (in_word lfext_of lfext_taken)
    ∷ []

-- ---- the column

-- how many bytes of a line can be taken whose rest is wrong
unfoldable pub line_taken : List ℕ → ℕ
line_taken [] = 0
line_taken (b ∷ l) = cond (eqb b 58) (suc (hex_taken l)) (named_taken names_behind (b ∷ l))

-- "for 4 the first byte after which no ending, however long, makes the line right", from 1
unfoldable pub column_of : List ℕ → ℕ
column_of l = suc (line_taken l)

-- the column of a fault that was found at a line: "128 for 1, and 1 for all others; 0 for 12 and 11"
unfoldable pub column_in : List ℕ → TextFault → ℕ
column_in l TextTooLong = 0
column_in l LineTooLong = suc line_limit
column_in l TooManyLines = 1
column_in l NoSuchName = 1
column_in l BadRest = column_of l
column_in l TooMuchData = 1
column_in l TooManyOmits = 1
column_in l TooManyLoops = 1
column_in l EndWithoutLoop = 1
column_in l LoopLeftOpen = 1
column_in l TooManyProcesses = 1
column_in l StretchTooLong = 0

-- ---- the sentence itself

-- what a column of a line is to be
pub record ColumnTold (l : List ℕ) (k : ℕ) : Type 0 where
  pub from : 1 ≤ k
  -- "or the line's length plus one if there is none"
  pub to : k ≤ length l + 1
  pub before : (j : ℕ) → j < k → CanEnd right_line (take j l)
  -- "the first byte after which no ending, however long, makes the line right"
  pub never : k ≤ length l → (ending : List ℕ) → right_line (take k l ++ ending) ≡ false
