-- A listed line fits in 127 bytes and holds no LF; it is at most 21 bytes long and 105/57 bytes longer for each byte of its data.
-- Both are reached: by `#WAIT CLOCK` with four units, and by 57 bytes in hex after `#WAIT DATA`. Assumes nothing.
use Prim.Native.Nat.{ℕ, suc, ◌+◌, ◌*◌, ◌/◌, ◌%◌, ◌≤◌}
use mathlib.Core.Path.{◌≡◌, refl}
use mathlib.Core.Bool.{Bool, true, false, cond, ◌&&◌, ◌||◌, not}
use mathlib.Core.List.{List, [], ◌∷◌, ◌++◌, append-nil}
use native.Mathlib.Omega.{arith}
use lib.Dec.{leb, eqb}
use lib.ListN.{length, length-append}
use borrow.Author.Tests.{leb-true}
use Rattle.reader.specs.Ascii.{ascii}
use Rattle.reader.specs.Bytes.{all, same}
use Rattle.writer.specs.Put.{decimal}
use Rattle.writer.specs.Hex.{hex_text}
use Rattle.reader.proofs.Tests.{all_append, both_left, both_right}
use Rattle.reader.proofs.Solid.{Solid, solid_append}
use Rattle.writer.proofs.Decimals.{decimal_few, decimal_solid}
use Rattle.writer.proofs.Hexes.{hex_solid, hex_length}
use Rattle.language.specs.Limits.{line_limit, send_room, wait_room, log_room}
use Rattle.language.specs.Clock.{clock_text}
use Rattle.language.specs.Script.{Statement, send, loop, end, wait_time, wait_data, wait_byte, wait_clock, wait_signal, rts, log, fchange, pause, resume, nop, data_of}
use Rattle.language.specs.Meaning.{signs}
use Rattle.language.specs.Listing.{is_plain, in_hex, last_in_one, short_hex, data_text, count_text, time_text, on_text, signal_text, log_text, line_for}
use Rattle.language.specs.Right.{is_byte, in_line, data_right, time_right, log_right, right}
use Rattle.language.proofs.Bytes.{bytes_are, solid_line, plain_line}
use Rattle.language.proofs.Clocks.{clock_length, clock_solid}
use Rattle.language.proofs.LastDigit.{one_over, short_length, short_solid}

-- the length is told in 57ths of a byte, `over` of them over 21 bytes
pub record Fine (over : ℕ) (l : List ℕ) : Type 0 where
  pub fits : length l ≤ line_limit
  pub small : length l * 57 ≤ 1197 + over
  pub whole : all in_line l ≡ true

-- data: in hex, with the last byte in one digit in the one case, or as text that is plain or has no room in hex
record Written (room : ℕ) (bs l : List ℕ) : Type 0 where
  fits : length l ≤ suc room
  small : length l ≤ 1 + length bs * 2
  whole : all in_line l ≡ true

written : (room : ℕ) (bs : List ℕ) → data_right room bs ≡ true → Written room bs (data_text room bs)
unfolding data_right data_text in_hex in_line is_byte
written room bs h =
    go (last_in_one room bs) (all is_plain bs) (leb (length bs * 2) room) refl refl refl (both_right (all is_byte bs) _ h)
  where
    bytes : all is_byte bs ≡ true
    bytes = both_left (all is_byte bs) _ h

    go : (o p q : Bool) → last_in_one room bs ≡ o → all is_plain bs ≡ p → leb (length bs * 2) room ≡ q → (q || (o || (leb (length bs) room && all in_line bs))) ≡ true
        → Written room bs (cond o (58 ∷ short_hex bs) (cond (not p && q) (58 ∷ hex_text bs) (47 ∷ bs)))
    go true p q e a l r =
        let n : length (short_hex bs) ≡ room = short_length room bs e in
        record { fits = omega arith; small = omega (arith, one_over room bs e); whole = solid_line (short_hex bs) (short_solid room bs e bytes) }
    go false true true e a l r =
        let n : length bs * 2 ≤ room = leb-true (length bs * 2) room l in
        record { fits = omega arith; small = omega arith; whole = plain_line bs a }
    go false true false e a l r =
        let n : length bs ≤ room = leb-true (length bs) room (both_left _ (all in_line bs) r) in
        record { fits = omega arith; small = omega arith; whole = plain_line bs a }
    go false false true e a l r =
        let n : length bs * 2 ≤ room = leb-true (length bs * 2) room l in
        let k : length (hex_text bs) ≡ length bs * 2 = hex_length bs in
        record { fits = omega arith; small = omega arith; whole = solid_line (hex_text bs) (hex_solid bs (bytes_are bs bytes)) }
    go false false false e a l r =
        let n : length bs ≤ room = leb-true (length bs) room (both_left _ (all in_line bs) r) in
        record { fits = omega arith; small = omega arith; whole = both_right (leb (length bs) room) (all in_line bs) r }

send_fine : (bs : List ℕ) → data_right send_room bs ≡ true → Fine (length bs * 105) (data_text send_room bs)
send_fine bs h =
    let w = written send_room bs h in
    record { fits = omega (arith, w.fits); small = omega (arith, w.fits, w.small); whole = w.whole }

data_fine : (bs : List ℕ) → data_right wait_room bs ≡ true → Fine (length bs * 105) (ascii "#WAIT DATA " ++ data_text wait_room bs)
unfolding in_line is_byte
data_fine bs h =
    let w = written wait_room bs h in
    record { fits = omega (arith, w.fits); small = omega (arith, w.fits, w.small); whole = w.whole }

-- a name and a short argument with no blank
pub short_fine : (head x : List ℕ) → length head + length x ≤ 21 → all in_line head ≡ true → Solid x → Fine 0 (head ++ x)
short_fine head x l h k =
    let e : length (head ++ x) ≡ length head + length x = length-append head x in
    record { fits = omega arith; small = omega arith; whole = all_append in_line head x h (solid_line x k) }

-- a name and a number
number_fine : (head : List ℕ) (n : ℕ) (unit : List ℕ) → n ≤ 60000 → length head + length unit ≤ 16 → all in_line head ≡ true → Solid unit
    → Fine 0 (head ++ (decimal n ++ unit))
number_fine head n unit h l k u =
    let few : length (decimal n) ≤ 5 = decimal_few 5 n (omega arith) (omega arith) in
    short_fine head (decimal n ++ unit) (omega (arith, length-append (decimal n) unit)) k
    (solid_append (decimal n) unit (decimal_solid n (omega arith)) u)

bare_number : (head : List ℕ) (n : ℕ) → n ≤ 60000 → length head ≤ 16 → all in_line head ≡ true → Fine 0 (head ++ decimal n)
bare_number head n h l k = rw (append-nil (decimal n)) at (number_fine head n [] h (omega arith) k tt)

loop_fine : (n : ℕ) → n ≤ 60000 → Fine 0 (line_for (loop n))
unfolding line_for count_text in_line is_byte
loop_fine n h = go (eqb n 0)
  where
    go : (t : Bool) → Fine 0 (ascii "#LOOP " ++ cond t (ascii "EVER") (decimal n))
    go true = short_fine (ascii "#LOOP ") (ascii "EVER") (omega arith) refl (omega arith)
    go false = bare_number (ascii "#LOOP ") n h (omega arith) refl

time_fine : (n : ℕ) → time_right n ≡ true → Fine 0 (line_for (wait_time n))
unfolding line_for time_text time_right in_line is_byte
time_fine n h = go (leb n 60000) refl h
  where
    go : (t : Bool) → leb n 60000 ≡ t → (t || (eqb (n % 1000) 0 && leb n 60000000)) ≡ true
        → Fine 0 (ascii "#WAIT TIME " ++ cond t (decimal n ++ ascii "MS") (decimal (n / 1000) ++ ascii "S"))
    go true e r = number_fine (ascii "#WAIT TIME ") n (ascii "MS") (leb-true n 60000 e) (omega arith) refl (omega arith)
    go false e r =
        let l : n ≤ 60000000 = leb-true n 60000000 (both_right (eqb (n % 1000) 0) (leb n 60000000) r) in
        number_fine (ascii "#WAIT TIME ") (n / 1000) (ascii "S") (omega arith) (omega arith) refl (omega arith)

on_solid : (on : Bool) → Solid (on_text on)
unfolding on_text
on_solid true = omega arith
on_solid false = omega arith

on_few : (on : Bool) → length (on_text on) ≤ 3
unfolding on_text
on_few true = omega arith
on_few false = omega arith

signal_solid : (n : ℕ) → n ≤ 4 → Solid (signal_text n)
unfolding signal_text
signal_solid n h = go (eqb n 0)
  where
    go : (t : Bool) → Solid (cond t (ascii "CTS") (69 ∷ 88 ∷ (48 + n) ∷ []))
    go true = omega arith
    go false = omega (arith, h)

signal_few : (n : ℕ) → length (signal_text n) ≤ 3
unfolding signal_text
signal_few n = go (eqb n 0)
  where
    go : (t : Bool) → length (cond t (ascii "CTS") (69 ∷ 88 ∷ (48 + n) ∷ [])) ≤ 3
    go true = omega arith
    go false = omega arith

log_fine : (text : List ℕ) → log_right text ≡ true → Fine (length text * 105) (line_for (log text))
unfolding line_for log_text log_right in_line is_byte
log_fine [] h = record { fits = omega arith; small = omega arith; whole = refl }
log_fine (b ∷ text) h =
    let t : List ℕ = b ∷ text in
    let rest : Bool = signs t false && all in_line t in
    let l : length t ≤ log_room = leb-true (length t) log_room (both_left (leb (length t) log_room) rest h) in
    record { fits = omega arith; small = omega arith; whole = both_right (signs t false) (all in_line t) (both_right (leb (length t) log_room) rest h) }

-- a line that is a name alone
pub name_fine : (l : List ℕ) → length l ≤ 21 → all in_line l ≡ true → Fine 0 l
name_fine l h k = record { fits = omega arith; small = omega arith; whole = k }

pub fine : (s : Statement) → right s ≡ true → Fine (length (data_of s) * 105) (line_for s)
unfolding right data_of in_line is_byte line_for
fine (send bs) h = send_fine bs h
fine (loop n) h = loop_fine n (leb-true n 60000 h)
fine end h = name_fine _ (omega arith) refl
fine (wait_time n) h = time_fine n h
fine (wait_data bs) h = data_fine bs (both_right (not (same bs [])) (data_right wait_room bs) h)
fine (wait_byte n) h = bare_number (ascii "#WAIT BYTE ") n (leb-true n 60000 h) (omega arith) refl
fine (wait_clock vs) h = short_fine (ascii "#WAIT CLOCK ") (clock_text vs) (omega (arith, clock_length vs h)) refl (clock_solid vs h)
fine (wait_signal n on) h =
    short_fine (ascii "#WAIT ") (signal_text n ++ on_text on)
    (omega (arith, length-append (signal_text n) (on_text on), signal_few n, on_few on)) refl
    (solid_append (signal_text n) (on_text on) (signal_solid n (leb-true n 4 h)) (on_solid on))
fine (rts on) h = short_fine (ascii "#RTS ") (on_text on) (omega (arith, on_few on)) refl (on_solid on)
fine (log text) h = log_fine text h
fine fchange h = name_fine _ (omega arith) refl
fine pause h = name_fine _ (omega arith) refl
fine resume h = name_fine _ (omega arith) refl
fine nop h = name_fine _ (omega arith) refl
