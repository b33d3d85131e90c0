-- A cell laid out and read back: its clock value, its data and its word. Assumes nothing.
use Prim.Native.Nat.{ℕ, ◌+◌, ◌*◌, ◌≤◌}
use mathlib.Core.Path.{◌≡◌, refl, sym, ap}
use mathlib.Core.Bool.{Bool, true, false, ◌&&◌, ◌||◌, not}
use mathlib.Core.List.{List, [], ◌∷◌}
use native.Mathlib.Omega.{arith}
use lib.Dec.{leb}
use lib.ListN.{length, take, drop}
use borrow.Author.Tests.{leb-true, le-leb}
use Rattle.reader.specs.Bytes.{all, same}
use Rattle.reader.proofs.Tests.{both_left, both_right, both, true_is_false}
use Rattle.language.specs.Limits.{data_limit, send_room, wait_room, log_room}
use Rattle.language.specs.Clock.{range, within}
use Rattle.language.specs.Script.{Statement, send, loop, end, wait_time, wait_data, wait_byte, wait_clock, wait_signal, rts, log, fchange, pause, resume, nop, data_of}
use Rattle.language.specs.Listing.{last_in_one}
use Rattle.language.specs.Right.{is_byte, in_line, data_right, in_ranges, clock_right, log_right, right}
use Rattle.language.specs.Cell.{span, span_right, unit_right, fixed_right, clock_from, fixed_units}
use Rattle.language.specs.Inside.Right.{cell_right}
use Rattle.language.specs.Table.{cell_for, statement_of}
use Rattle.language.proofs.LastDigit.{one_over}

-- ---- clock values

-- values in as many ranges as they are
pub no_more : (vs : List ℕ) → in_ranges [] vs ≡ true → vs ≡ []
unfolding in_ranges
no_more [] h = refl
no_more (v ∷ vs) h = true_is_false (sym h)

pub units_back : (vs : List ℕ) → clock_right vs ≡ true → fixed_units (clock_from vs) ≡ vs
unfolding clock_right fixed_units clock_from in_ranges
units_back [] h = refl
units_back (s ∷ []) h = refl
units_back (m ∷ s ∷ []) h = refl
units_back (o ∷ m ∷ s ∷ []) h = refl
units_back (d ∷ o ∷ m ∷ s ∷ more) h =
    let a = both_right (within (range 1 31) d) _ h in
    let b = both_right (within (range 0 23) o) _ a in
    let e = both_right (within (range 0 59) m) _ b in
    rw (no_more more (both_right (within (range 0 59) s) _ e))

pub both_map : (a b c : Bool) → (b ≡ true → c ≡ true) → (a && b) ≡ true → (a && c) ≡ true
both_map a b c f h = both a c (both_left a b h) (f (both_right a b h))

pub fixed_right_lem : (vs : List ℕ) → clock_right vs ≡ true → fixed_right (clock_from vs) ≡ true
unfolding clock_right fixed_right clock_from unit_right in_ranges
fixed_right_lem [] h = refl
fixed_right_lem (s ∷ []) h = both_left (within (range 0 59) s) _ h
fixed_right_lem (m ∷ s ∷ []) h = both_map (within (range 0 59) m) _ _ (both_left (within (range 0 59) s) _) h
fixed_right_lem (o ∷ m ∷ s ∷ []) h =
    both_map (within (range 0 23) o) _ _ (both_map (within (range 0 59) m) _ _ (both_left (within (range 0 59) s) _)) h
fixed_right_lem (d ∷ o ∷ m ∷ s ∷ more) h =
    both_map (within (range 1 31) d) _ _
    (both_map (within (range 0 23) o) _ _ (both_map (within (range 0 59) m) _ _ (both_left (within (range 0 59) s) _))) h

-- ---- a cell

-- data that a line has room for are few enough
pub data_room : (room : ℕ) (bs : List ℕ) → data_right room bs ≡ true → length bs ≤ room
unfolding data_right
data_room room bs h = go (leb (length bs * 2) room) (last_in_one room bs) refl refl (both_right (all is_byte bs) _ h)
  where
    go : (t o : Bool) → leb (length bs * 2) room ≡ t → last_in_one room bs ≡ o → (t || (o || (leb (length bs) room && all in_line bs))) ≡ true → length bs ≤ room
    go true o e k r = omega (arith, leb-true (length bs * 2) room e)
    go false true e k r = omega (arith, one_over room bs k)
    go false false e k r = leb-true (length bs) room (both_left (leb (length bs) room) _ r)

pub span_right_lem : (low high at n : ℕ) → low ≤ n → n ≤ high → at + n ≤ data_limit → span_right low high (span at n) ≡ true
unfolding span_right
span_right_lem low high at n a b c = simp (le-leb low n a, le-leb n high b, le-leb (at + n) data_limit c)

-- the data of a right statement are no more than a data line has room for
pub data_few : (s : Statement) → right s ≡ true → length (data_of s) ≤ send_room
unfolding right data_of
data_few (send bs) h = data_room send_room bs h
data_few (loop n) h = omega arith
data_few end h = omega arith
data_few (wait_time n) h = omega arith
data_few (wait_data bs) h = omega (arith, data_room wait_room bs (both_right (not (same bs [])) _ h))
data_few (wait_byte n) h = omega arith
data_few (wait_clock vs) h = omega arith
data_few (wait_signal n on) h = omega arith
data_few (rts on) h = omega arith
data_few (log text) h = omega (arith, leb-true (length text) log_room (unfold log_right in both_left (leb (length text) log_room) _ h))
data_few fchange h = omega arith
data_few pause h = omega arith
data_few resume h = omega arith
data_few nop h = omega arith

pub some : (bs : List ℕ) → not (same bs []) ≡ true → 1 ≤ length bs
unfolding same
some [] h = true_is_false (sym h)
some (b ∷ bs) h = omega arith

-- a right statement has a cell that a line can have, where its data lie within the pool
pub cell_right_lem : (at : ℕ) (s : Statement) → right s ≡ true → at + length (data_of s) ≤ data_limit → cell_right (cell_for at s) ≡ true
unfolding right data_of cell_for cell_right
cell_right_lem at (send bs) h k = span_right_lem 0 send_room at (length bs) (omega arith) (data_room send_room bs h) k
cell_right_lem at (loop n) h k = h
cell_right_lem at end h k = refl
cell_right_lem at (wait_time n) h k = h
cell_right_lem at (wait_data bs) h k =
    span_right_lem 1 wait_room at (length bs) (some bs (both_left (not (same bs [])) _ h)) (data_room wait_room bs (both_right (not (same bs [])) _ h)) k
cell_right_lem at (wait_byte n) h k = h
cell_right_lem at (wait_clock vs) h k = fixed_right_lem vs h
cell_right_lem at (wait_signal n on) h k = h
cell_right_lem at (rts on) h k = refl
cell_right_lem at (log text) h k =
    span_right_lem 0 log_room at (length text) (omega arith) (leb-true (length text) log_room (unfold log_right in both_left (leb (length text) log_room) _ h)) k
cell_right_lem at fchange h k = refl
cell_right_lem at pause h k = refl
cell_right_lem at resume h k = refl
cell_right_lem at nop h k = refl

-- and is read back from it, where its data lie at their place
pub statement_back : (pool : List ℕ) (at : ℕ) (s : Statement) → right s ≡ true → take (length (data_of s)) (drop at pool) ≡ data_of s
    → statement_of pool (cell_for at s) ≡ s
unfolding right data_of cell_for statement_of
statement_back pool at (send bs) h e = ap send e
statement_back pool at (loop n) h e = refl
statement_back pool at end h e = refl
statement_back pool at (wait_time n) h e = refl
statement_back pool at (wait_data bs) h e = ap wait_data e
statement_back pool at (wait_byte n) h e = refl
statement_back pool at (wait_clock vs) h e = ap wait_clock (units_back vs h)
statement_back pool at (wait_signal n on) h e = refl
statement_back pool at (rts on) h e = refl
statement_back pool at (log text) h e = ap log e
statement_back pool at fchange h e = refl
statement_back pool at pause h e = refl
statement_back pool at resume h e = refl
statement_back pool at nop h e = refl
