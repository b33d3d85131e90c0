-- Document 01, "The listing". "CR LF after each line. One line per written statement line."
use Rattle.std.specs.Prelude.{ℕ, suc, ◌+◌, ◌-◌, ◌*◌, ◌/◌, Bool, true, false, cond, ◌&&◌, not, List, [], ◌∷◌, ◌++◌, length, get_or, take, ltb, leb, eqb}
use Rattle.reader.specs.Ascii.{ascii}
use Rattle.reader.specs.Bytes.{all, same}
use Rattle.writer.specs.Put.{decimal}
use Rattle.writer.specs.Hex.{capital, hex_text}
use Rattle.language.specs.Limits.{send_room, wait_room}
use Rattle.language.specs.Clock.{clock_text}
use Rattle.language.specs.Script.{Statement, send, loop, end, wait_time, wait_data, wait_byte, wait_clock, wait_signal, rts, log, fchange, pause, resume, nop, Encode, unset, byte, Settings, Item, does, next, Script}

-- "Data in hex .. where a byte lies outside 20h to 7Eh and the line fits in 127; else text": `room` is what the line has left
-- after the mark
unfoldable pub is_plain : ℕ → Bool
is_plain b = leb 32 b && leb b 126

-- "where a byte lies outside 20h to 7Eh and the line fits in 127"
unfoldable pub in_hex : ℕ → List ℕ → Bool
in_hex room bs = not (all is_plain bs) && leb (length bs * 2) room

-- the last of some bytes, and those before it
abbrev pub last_of : List ℕ → ℕ
last_of bs = get_or bs (length bs - 1) 0

abbrev pub front_of : List ℕ → List ℕ
front_of bs = take (length bs - 1) bs

-- No. 5: "a WAIT DATA line can now hold 58 bytes, the last below 10h": with two digits for each they are one over the room
unfoldable pub last_in_one : ℕ → List ℕ → Bool
last_in_one room bs = eqb (length bs * 2) (suc room) && ltb (last_of bs) 16

-- No. 5: "in that one case the listing writes the last byte as one digit", and those before it in two
unfoldable pub short_hex : List ℕ → List ℕ
short_hex bs = hex_text (front_of bs) ++ capital (last_of bs) ∷ []

-- No. 5's case; then "Data in hex", after `:`, "else text", after `/`
unfoldable pub data_text : ℕ → List ℕ → List ℕ
data_text room bs = cond (last_in_one room bs) (58 ∷ short_hex bs) (cond (in_hex room bs) (58 ∷ hex_text bs) (47 ∷ bs))

-- "`#LOOP EVER` or the count"
unfoldable pub count_text : ℕ → List ℕ
count_text n = cond (eqb n 0) (ascii "EVER") (decimal n)

-- "Times up to 60000 ms in MS, longer in S"
unfoldable pub time_text : ℕ → List ℕ
time_text n = cond (leb n 60000) (decimal n ++ ascii "MS") (decimal (n / 1000) ++ ascii "S")

-- a level, as the names have it
unfoldable pub on_text : Bool → List ℕ
on_text true = ascii "ON"
on_text false = ascii "OFF"

-- CTS, or EX and its number
unfoldable pub signal_text : ℕ → List ℕ
signal_text n = cond (eqb n 0) (ascii "CTS") (69 ∷ 88 ∷ (48 + n) ∷ [])

-- "LOG as written, `#LOG` if empty"
unfoldable pub log_text : List ℕ → List ℕ
log_text [] = ascii "#LOG"
log_text (b ∷ text) = ascii "#LOG " ++ b ∷ text

-- "One line per written statement line"
unfoldable pub line_for : Statement → List ℕ
line_for (send bs) = data_text send_room bs
line_for (loop n) = ascii "#LOOP " ++ count_text n
line_for end = ascii "#END"
line_for (wait_time n) = ascii "#WAIT TIME " ++ time_text n
line_for (wait_data bs) = ascii "#WAIT DATA " ++ data_text wait_room bs
line_for (wait_byte n) = ascii "#WAIT BYTE " ++ decimal n
line_for (wait_clock vs) = ascii "#WAIT CLOCK " ++ clock_text vs
line_for (wait_signal n on) = ascii "#WAIT " ++ (signal_text n ++ on_text on)
line_for (rts on) = ascii "#RTS " ++ on_text on
line_for (log text) = log_text text
line_for fchange = ascii "#FCHANGE"
line_for pause = ascii "#PAUSE"
line_for resume = ascii "#RESUME"
line_for nop = ascii "#NOP"

-- "`#PROCESS` precedes every process but the first"
unfoldable pub item_line : Item → List ℕ
item_line (does s) = line_for s
item_line next = ascii "#PROCESS"

-- a line for each item
unfoldable pub item_lines : List Item → List (List ℕ)
item_lines [] = []
item_lines (i ∷ is) = item_line i ∷ item_lines is

-- "and the first too if it is empty and others follow"
unfoldable pub body_lines : List Item → List (List ℕ)
body_lines [] = []
body_lines (does s ∷ is) = item_lines (does s ∷ is)
body_lines (next ∷ is) = ascii "#PROCESS" ∷ item_lines (next ∷ is)

-- "First, in this order, if not default"
abbrev pub line_if : Bool → List ℕ → List (List ℕ)
line_if true l = l ∷ []
line_if false l = []

-- "`#f:ENCODE :hh` (capital digits)"
unfoldable pub encode_lines : Encode → List (List ℕ)
encode_lines unset = []
encode_lines (byte b) = (ascii "#f:ENCODE :" ++ hex_text (b ∷ [])) ∷ []

-- ENCODE, STOPBITS, OMIT, LFEXT, each "if not default"
unfoldable pub setting_lines : Settings → List (List ℕ)
setting_lines s =
    encode_lines s.encode
    ++ (line_if s.two_stopbits (ascii "#f:STOPBITS 2")
    ++ (line_if (not (same s.omit [])) (ascii "#f:OMIT :" ++ hex_text s.omit)
    ++ line_if (not (same s.lfext (ascii "LOG"))) (ascii "#f:LFEXT " ++ s.lfext)))

-- the f: lines "First", then the body
unfoldable pub listed_lines : Script → List (List ℕ)
listed_lines s = setting_lines s.settings ++ body_lines s.body

-- "CR LF after each line"
unfoldable pub with_line_ends : List (List ℕ) → List ℕ
with_line_ends [] = []
with_line_ends (l ∷ ls) = l ++ 13 ∷ 10 ∷ with_line_ends ls

-- the listing of a script
unfoldable pub listing : Script → List ℕ
listing s = with_line_ends (listed_lines s)
