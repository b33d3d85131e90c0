-- Which statements, settings and scripts a text can have, as tests that compute.
use Rattle.std.specs.Prelude.{ℕ, ◌+◌, ◌-◌, ◌*◌, ◌%◌, Bool, true, false, ◌&&◌, ◌||◌, not, List, [], ◌∷◌, length, ltb, leb, eqb}
use Rattle.figures.specs.Cap.{limit}
use Rattle.reader.specs.Bytes.{all, same}
unfoldable pub use Rattle.reader.specs.Bytes.{is_byte, in_line}
use Rattle.language.specs.Limits.{lines_limit, data_limit, omit_limit, loop_limit, process_limit, send_room, wait_room, log_room}
use Rattle.language.specs.Clock.{Range, within, second_on, minute_on, hour_on, day_on}
use Rattle.language.specs.Script.{Statement, send, loop, end, wait_time, wait_data, wait_byte, wait_clock, wait_signal, rts, log, fchange, pause, resume, nop, Encode, unset, byte, Settings, Item, does, next, Script, processes, Shape, opens, closes, stays, shape, data_of}
use Rattle.language.specs.Meaning.{signs, extension}
use Rattle.language.specs.Listing.{last_in_one, listed_lines}

-- data that a line has room for: in hex, the last byte in one digit if need be, or, with no LF among them, as text
unfoldable pub data_right : ℕ → List ℕ → Bool
data_right room bs = all is_byte bs && (leb (length bs * 2) room || (last_in_one room bs || (leb (length bs) room && all in_line bs)))

-- up to 60,000 ms, or whole seconds up to 60,000
unfoldable pub time_right : ℕ → Bool
time_right n = leb n 60000 || (eqb (n % 1000) 0 && leb n 60000000)

-- a value for each range, in it
unfoldable pub in_ranges : List Range → List ℕ → Bool
in_ranges [] [] = true
in_ranges [] (v ∷ vs) = false
in_ranges (r ∷ rs) [] = false
in_ranges (r ∷ rs) (v ∷ vs) = within r v && in_ranges rs vs

-- "D 01 to 31, h to 23, m and s to 59", by how many units are fixed
unfoldable pub clock_right : List ℕ → Bool
clock_right [] = true
clock_right (s ∷ []) = in_ranges second_on (s ∷ [])
clock_right (m ∷ s ∷ []) = in_ranges minute_on (m ∷ s ∷ [])
clock_right (h ∷ m ∷ s ∷ []) = in_ranges hour_on (h ∷ m ∷ s ∷ [])
clock_right (d ∷ h ∷ m ∷ s ∷ more) = in_ranges day_on (d ∷ h ∷ m ∷ s ∷ more)

-- text that a LOG line has room for, with no other sign
unfoldable pub log_right : List ℕ → Bool
log_right text = leb (length text) log_room && (signs text false && all in_line text)

-- the statements that some line says
unfoldable pub right : Statement → Bool
right (send bs) = data_right send_room bs
right (loop n) = leb n 60000
right end = true
right (wait_time n) = time_right n
right (wait_data bs) = not (same bs []) && data_right wait_room bs
right (wait_byte n) = leb n 60000
right (wait_clock vs) = clock_right vs
right (wait_signal n on) = leb n 4
right (rts on) = true
right (log text) = log_right text
right fchange = true
right pause = true
right resume = true
right nop = true

-- ---- scripts

-- "`#f:ENCODE` one byte", or none
unfoldable pub encode_right : Encode → Bool
encode_right unset = true
encode_right (byte b) = is_byte b

-- "10 OMIT bytes"; "1 to 3 letters or digits, made capital"
unfoldable pub settings_right : Settings → Bool
settings_right s = encode_right s.encode && (all is_byte s.omit && (leb (length s.omit) omit_limit && extension s.lfext))

-- every statement of a body
unfoldable pub all_right : List Item → Bool
all_right [] = true
all_right (does s ∷ is) = right s && all_right is
all_right (next ∷ is) = all_right is

-- bytes of data in all
unfoldable pub data_in : List Item → ℕ
data_in [] = 0
data_in (does s ∷ is) = length (data_of s) + data_in is
data_in (next ∷ is) = data_in is

-- processes after the first
unfoldable pub nexts_in : List Item → ℕ
nexts_in [] = 0
nexts_in (does s ∷ is) = nexts_in is
nexts_in (next ∷ is) = 1 + nexts_in is

-- loops nest, at most 8 deep, and are closed in each process; `depth` are open
unfoldable pub may_nest : Shape → ℕ → Bool
may_nest stays depth = true
may_nest opens depth = ltb depth loop_limit
may_nest closes depth = ltb 0 depth

-- how many loops are open after a statement
unfoldable pub depth_after : Shape → ℕ → ℕ
depth_after stays depth = depth
depth_after opens depth = depth + 1
depth_after closes depth = depth - 1

-- each END has its LOOP in its own process, and each LOOP its END
unfoldable pub nests : List Item → ℕ → Bool
nests [] depth = eqb depth 0
nests (does s ∷ is) depth = may_nest (shape s) depth && nests is (depth_after (shape s) depth)
nests (next ∷ is) depth = eqb depth 0 && nests is 0

-- "stretch over 4,096" 11: no process is
unfoldable pub all_below : (List Statement → ℕ) → List (List Statement) → Bool
all_below stretch [] = true
all_below stretch (p ∷ ps) = leb (stretch p) limit && all_below stretch ps

-- the scripts that some text has
unfoldable pub script_right : (List Statement → ℕ) → Script → Bool
script_right stretch s =
    settings_right s.settings
    && (all_right s.body
    && (leb (length (listed_lines s)) lines_limit
    && (leb (data_in s.body) data_limit
    && (nests s.body 0
    && (ltb (nexts_in s.body) process_limit && all_below stretch (processes s.body))))))
