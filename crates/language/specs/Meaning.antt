-- Document 01, "Lines": what a line means. A line's first byte is a mark, or its first word is a name of the table, whose reader
-- takes what follows.
use Rattle.std.specs.Prelude.{ℕ, zero, suc, ◌-◌, ◌*◌, Bool, true, false, cond, ◌&&◌, ◌||◌, not, List, [], ◌∷◌, length, drop, ltb, leb, eqb, Ok, Err}
use Rattle.reader.specs.Ascii.{ascii}
use Rattle.reader.specs.Bytes.{is_blank, all, same}
use Rattle.words.specs.Words.{skip, argument, word_of, after_word}
use Rattle.numbers.specs.Number.{NumberRead, number_at}
use Rattle.hex_data.specs.Hex.{Said, hex_at, hex_byte_at, good, bad}
use Rattle.language.specs.declared.TextFault.TheVariants.{NoSuchName, BadRest}
use Rattle.language.specs.Clock.{clock_of}
use Rattle.language.specs.Script.{Statement, send, loop, end, wait_time, wait_data, wait_byte, wait_clock, wait_signal, rts, log, fchange, pause, resume, nop, Meaning, comment, blank, process, set_ex, says, set_encode, set_stopbits, set_omit, set_lfext, fault}
use Rattle.language.specs.Limits.{letter_limit}

-- "name known, the rest missing, bad or surplus" 4
abbrev pub checked : Bool → Meaning → Meaning
checked ok m = cond ok m (fault BadRest)

-- nothing but spaces and tabs may follow: "surplus"
unfoldable pub bare : Meaning → List ℕ → Meaning
bare m rest = checked (all is_blank rest) m

-- a number that was read, with nothing after it
unfoldable pub number_says : (ℕ → Statement) → List ℕ → NumberRead → Meaning
number_says s a (Ok n) = checked (eqb n.next (length a)) (says (s n.value))
number_says s a (Err at) = fault BadRest

-- "One to five decimal digits, here and below", up to a limit
unfoldable pub number : ℕ → (ℕ → Statement) → List ℕ → Meaning
number limit s a = number_says s a (number_at 5 limit a 0)

-- "`#LOOP n`, n 0 to 60000; `EVER`, 0 or nothing is forever"
unfoldable pub loop_of : List ℕ → Meaning
loop_of a = cond (same a [] || same a (ascii "EVER")) (says (loop 0)) (number 60000 loop a)

-- "`#WAIT BYTE n`, 0 to 60000, nothing is 1"
unfoldable pub byte_of : List ℕ → Meaning
byte_of a = cond (same a []) (says (wait_byte 1)) (number 60000 wait_byte a)

-- "MS (0 to 60000), S (0 to 60000) or M (0 to 999)"; "no unit is S"
unfoldable pub time_in : List ℕ → ℕ → Meaning
time_in unit v =
    cond (same unit (ascii "MS")) (says (wait_time v))
    (cond (same unit (ascii "S") || same unit []) (says (wait_time (v * 1000)))
    (checked (same unit (ascii "M") && leb v 999) (says (wait_time (v * 60000)))))

-- "no number is 1"; "Number and unit touch"
unfoldable pub time_by : List ℕ → NumberRead → Meaning
time_by a (Ok n) = time_in (drop n.next a) n.value
time_by a (Err zero) = time_in a 1
time_by a (Err (suc at)) = fault BadRest

-- "`#WAIT TIME`: number and MS (0 to 60000), S (0 to 60000) or M (0 to 999)"
unfoldable pub time_of : List ℕ → Meaning
time_of a = time_by a (number_at 5 60000 a 0)

-- "`#WAIT CLOCK`", its values read or at fault
unfoldable pub clock_says : Said → Meaning
clock_says (good vs) = says (wait_clock vs)
clock_says (bad at) = fault BadRest

-- data with its mark: "`/` or `:` data"
unfoldable pub marked_data : List ℕ → Said
marked_data [] = bad 0
marked_data (b ∷ l) = cond (eqb b 47) (good l) (cond (eqb b 58) (hex_at l 0) (bad 0))

-- "`#WAIT DATA` with `/` or `:` data, not empty"
unfoldable pub data_says : Said → Meaning
data_says (good []) = fault BadRest
data_says (good (b ∷ bs)) = says (wait_data (b ∷ bs))
data_says (bad at) = fault BadRest

-- "`:` sends hex bytes"; "No data is allowed and sends nothing"
unfoldable pub send_says : Said → Meaning
send_says (good bs) = says (send bs)
send_says (bad at) = fault BadRest

-- "`#f:OMIT` with marked data, which may be empty"
unfoldable pub omit_says : Said → Meaning
omit_says (good bs) = set_omit bs
omit_says (bad at) = fault BadRest

-- "`#RTS ON`, `OFF`"
unfoldable pub rts_of : List ℕ → Meaning
rts_of a = cond (same a (ascii "ON")) (says (rts true)) (checked (same a (ascii "OFF")) (says (rts false)))

-- "signs `@c @Y @M @D @h @m @s @@ @r @n`; another byte after `@`, or none, is refused"
unfoldable pub is_sign : ℕ → Bool
is_sign b = eqb b 99 || eqb b 89 || eqb b 77 || eqb b 68 || eqb b 104 || eqb b 109 || eqb b 115 || eqb b 64 || eqb b 114 || eqb b 110

-- the flag tells that `@` stands before
unfoldable pub signs : List ℕ → Bool → Bool
signs [] at = not at
signs (b ∷ l) true = is_sign b && signs l false
signs (b ∷ l) false = signs l (eqb b 64)

-- "`#LOG`, one space, text"; "`#LOG` by itself has empty text"
unfoldable pub log_of : List ℕ → Meaning
log_of [] = says (log [])
log_of (b ∷ text) = checked (eqb b 32 && signs text false) (says (log text))

-- "`:` and one or two hex digits, `/` then a byte, or the byte; more is ignored"
unfoldable pub encode_hex : NumberRead → Meaning
encode_hex (Ok n) = set_encode n.value
encode_hex (Err at) = fault BadRest

-- "`/` then a byte"
unfoldable pub encode_byte : List ℕ → Meaning
encode_byte [] = fault BadRest
encode_byte (b ∷ l) = set_encode b

-- "`#f:ENCODE` one byte"
unfoldable pub encode_of : List ℕ → Meaning
encode_of [] = fault BadRest
encode_of (b ∷ l) = cond (eqb b 58) (encode_hex (hex_byte_at l 0)) (cond (eqb b 47) (encode_byte l) (set_encode b))

-- "exactly `2` is two; any other rest, or none, is one"
unfoldable pub stopbits_of : List ℕ → Meaning
stopbits_of a = set_stopbits (same a (ascii "2"))

-- "1 to 3 letters or digits, made capital"
unfoldable pub is_capital : ℕ → Bool
is_capital b = (leb 48 b && leb b 57) || (leb 65 b && leb b 90)

-- "made capital"
unfoldable pub raised : ℕ → ℕ
raised b = cond (leb 97 b && leb b 122) (b - 32) b

-- each letter "made capital"
unfoldable pub raise : List ℕ → List ℕ
raise [] = []
raise (b ∷ l) = raised b ∷ raise l

-- "1 to 3 letters or digits"
unfoldable pub extension : List ℕ → Bool
extension l = ltb 0 (length l) && leb (length l) letter_limit && all is_capital l

-- "`#f:LFEXT` 1 to 3 letters or digits, made capital"
unfoldable pub lfext_of : List ℕ → Meaning
lfext_of a = checked (extension (raise a)) (set_lfext (raise a))

-- "`#f:EX1 IN` to `#f:EX4 IN` (no effect)"
unfoldable pub ex_in : List ℕ → Meaning
ex_in a = checked (same a (ascii "IN")) set_ex

-- ---- names

-- a name, and what reads the rest after it
pub record Entry : Type 0 where
  pub word : List ℕ
  pub reader : List ℕ → Meaning

-- an entry by its parts
abbrev pub entry : List ℕ → (List ℕ → Meaning) → Entry
entry w r = record { word = w; reader = r }

-- "line begins with no mark or name above; names are whole words" 3: else the reader of the name, at what follows it
unfoldable pub lookup : List Entry → List ℕ → List ℕ → Meaning
lookup [] w rest = fault NoSuchName
lookup (e ∷ es) w rest =
    let here = e.reader rest in
    let further = lookup es w rest in
    cond (same e.word w) here further

-- "`#WAIT CTSON`, `CTSOFF`, `EX1ON` to `EX4OFF`"
unfoldable pub signal : ℕ → Bool → List ℕ → Meaning
signal n on rest = bare (says (wait_signal n on)) rest

-- the second words after `#WAIT`
unfoldable pub waits : List Entry
waits =
    entry (ascii "TIME") (λ rest. time_of (argument rest))
    ∷ entry (ascii "DATA") (λ rest. data_says (marked_data (skip rest)))
    ∷ entry (ascii "BYTE") (λ rest. byte_of (argument rest))
    ∷ entry (ascii "CLOCK") (λ rest. clock_says (clock_of (argument rest)))
    ∷ entry (ascii "CTSON") (signal 0 true)
    ∷ entry (ascii "CTSOFF") (signal 0 false)
    ∷ entry (ascii "EX1ON") (signal 1 true)
    ∷ entry (ascii "EX1OFF") (signal 1 false)
    ∷ entry (ascii "EX2ON") (signal 2 true)
    ∷ entry (ascii "EX2OFF") (signal 2 false)
    ∷ entry (ascii "EX3ON") (signal 3 true)
    ∷ entry (ascii "EX3OFF") (signal 3 false)
    ∷ entry (ascii "EX4ON") (signal 4 true)
    ∷ entry (ascii "EX4OFF") (signal 4 false)
    ∷ []

-- "after `#WAIT` the second word too"
unfoldable pub wait_of : List ℕ → Meaning
wait_of l = lookup waits (word_of l) (after_word l)

-- the names that begin a line
unfoldable pub names : List Entry
names =
    entry (ascii "#LOOP") (λ rest. loop_of (argument rest))
    ∷ entry (ascii "#END") (bare (says end))
    ∷ entry (ascii "#WAIT") (λ rest. wait_of (skip rest))
    ∷ entry (ascii "#RTS") (λ rest. rts_of (argument rest))
    ∷ entry (ascii "#LOG") log_of
    ∷ entry (ascii "#FCHANGE") (bare (says fchange))
    ∷ entry (ascii "#PAUSE") (bare (says pause))
    ∷ entry (ascii "#RESUME") (bare (says resume))
    ∷ entry (ascii "#NOP") (bare (says nop))
    ∷ entry (ascii "#PROCESS") (bare process)
    ∷ entry (ascii "#f:ENCODE") (λ rest. encode_of (argument rest))
    ∷ entry (ascii "#f:STOPBITS") (λ rest. stopbits_of (argument rest))
    ∷ entry (ascii "#f:EX1") (λ rest. ex_in (argument rest))
    ∷ entry (ascii "#f:EX2") (λ rest. ex_in (argument rest))
    ∷ entry (ascii "#f:EX3") (λ rest. ex_in (argument rest))
    ∷ entry (ascii "#f:EX4") (λ rest. ex_in (argument rest))
    ∷ entry (ascii "#f:OMIT") (λ rest. omit_says (marked_data (skip rest)))
    ∷ entry (ascii "#f:LFEXT") (λ rest. lfext_of (argument rest))
    ∷ []

-- "names are whole words": the first word of the line decides
unfoldable pub named : List ℕ → Meaning
named l = lookup names (word_of l) (after_word l)

-- "`;` comment. `/` sends the rest of the line. `:` sends hex bytes"; "blank lines (spaces and tabs only)"
unfoldable pub meaning : List ℕ → Meaning
meaning [] = blank
meaning (b ∷ l) =
    cond (eqb b 59) comment
    (cond (eqb b 47) (says (send l))
    (cond (eqb b 58) (send_says (hex_at l 0))
    (cond (is_blank b && all is_blank l) blank (named (b ∷ l)))))
