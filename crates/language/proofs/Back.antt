-- THE MEANING OF A STATEMENT'S LISTED LINE IS THAT STATEMENT, for every statement that a line can have as its meaning.
-- The name at the front of a listed line is a closed text, so that the choice of the reader computes; what is left is that
-- each reader takes back what its writer wrote. Assumes nothing.
use Prim.Native.Nat.{ℕ, zero, suc, ◌+◌, ◌*◌, ◌/◌, ◌%◌, ◌≤◌, ◌<◌}
use mathlib.Core.Path.{◌≡◌, refl, sym, ap, ◌∙◌}
use mathlib.Core.Bool.{Bool, true, false, cond, ◌&&◌, ◌||◌}
use mathlib.Core.List.{List, [], ◌∷◌, ◌++◌, append-nil}
use native.Mathlib.Omega.{arith}
use lib.Dec.{leb, eqb}
use lib.ListN.{length}
use lib.Seq.{drop_at}
use borrow.Author.Tests.{leb-true, eqb-true, ne_eqb, eq-eqb}
use Rattle.reader.specs.Ascii.{ascii}
use Rattle.reader.specs.Bytes.{digit_of, is_blank, all, same}
use Rattle.words.specs.Words.{skip, before_end, trim_end, argument, word_of, after_word}
use Rattle.numbers.specs.Number.{value_at, number_at}
use Rattle.hex_data.specs.Hex.{good, hex_at}
use Rattle.writer.specs.Hex.{hex_text}
use Rattle.writer.specs.Put.{width_of, decimal}
use Rattle.reader.proofs.Tests.{both_left, both_right, true_is_false, Every}
use Rattle.reader.proofs.Solid.{solid_append}
use Rattle.words.proofs.Solid.{argument_solid}
use Rattle.writer.proofs.Decimals.{decimal_length, decimal_some, decimal_few, decimal_low, decimal_solid}
use Rattle.writer.proofs.Back.{Stops, number_back}
use Rattle.language.proofs.Hexes.{hex_said}
use Rattle.language.proofs.LastDigit.{short_said}
use Rattle.language.specs.Limits.{send_room, wait_room, log_room}
use Rattle.language.specs.Clock.{clock_of, clock_text}
use Rattle.language.specs.Script.{Statement, send, loop, end, wait_time, wait_data, wait_byte, wait_clock, wait_signal, rts, log, fchange, pause, resume, nop, says}
use Rattle.language.specs.Meaning.{bare, number_says, number, loop_of, byte_of, time_in, time_by, time_of, clock_says, marked_data, data_says, send_says, rts_of, signs, log_of, lookup, signal, waits, wait_of, names, named, meaning}
use Rattle.language.specs.Listing.{in_hex, last_in_one, short_hex, data_text, count_text, time_text, on_text, signal_text, log_text, line_for}
use Rattle.language.specs.Right.{is_byte, data_right, time_right, clock_right, log_right, right}
use Rattle.language.proofs.Clocks.{clock_back, clock_solid}

-- one name for what the choice of a reader opens: to unfold it is to unfold what its own line names
unfoldable pub choice : Unit {0}
unfolding meaning named lookup names same word_of after_word is_blank skip wait_of waits signal bare
choice = tt

-- ---- the name of a line chooses its reader

module _ (x : List ℕ) where
  loop_line : meaning (ascii "#LOOP " ++ x) ≡ loop_of (argument (32 ∷ x))
  unfolding choice
  loop_line = refl

  time_line : meaning (ascii "#WAIT TIME " ++ x) ≡ time_of (argument (32 ∷ x))
  unfolding choice
  time_line = refl

  byte_line : meaning (ascii "#WAIT BYTE " ++ x) ≡ byte_of (argument (32 ∷ x))
  unfolding choice
  byte_line = refl

  clock_line : meaning (ascii "#WAIT CLOCK " ++ x) ≡ clock_says (clock_of (argument (32 ∷ x)))
  unfolding choice
  clock_line = refl

  text_line : meaning (ascii "#WAIT DATA /" ++ x) ≡ data_says (good x)
  unfolding choice marked_data
  text_line = refl

  hex_line : meaning (ascii "#WAIT DATA :" ++ x) ≡ data_says (hex_at x 0)
  unfolding choice marked_data
  hex_line = refl

  log_line : meaning (ascii "#LOG " ++ x) ≡ log_of (32 ∷ x)
  unfolding choice
  log_line = refl

-- ---- numbers: up to 60,000, as everywhere in the language

module _ (n : ℕ) (h : n ≤ 60000) where
  decimal_read : (rest : List ℕ) → Stops rest → number_at 5 60000 (decimal n ++ rest) 0 ≡ value_at n (length (decimal n))
  unfolding number_at
  decimal_read rest s =
      let few : length (decimal n) ≤ 5 = decimal_few 5 n (omega arith) (omega arith) in
      let e : 0 + width_of n ≡ length (decimal n) = omega (arith, decimal_length n) in
      number_back 5 60000 n rest 0 h (omega arith) (omega arith) s ∙ rw e

  number_said : (s : ℕ → Statement) → number 60000 s (decimal n) ≡ says (s n)
  unfolding number number_says
  number_said s =
      let e : number_at 5 60000 (decimal n) 0 ≡ value_at n (length (decimal n)) =
      ap (λ (l : List ℕ). number_at 5 60000 l 0) (sym (append-nil (decimal n))) ∙ decimal_read [] tt
      in
      rw (e, eq-eqb (length (decimal n)) (length (decimal n)) refl)

  pub decimal_word : argument (32 ∷ decimal n) ≡ decimal n
  decimal_word = argument_solid (decimal n) (decimal_solid n (omega arith))

-- a number is not empty, and no word
not_empty : (l : List ℕ) → 0 < length l → same l [] ≡ false
unfolding same
not_empty [] h = absurd (omega arith)
not_empty (b ∷ l) h = refl

no_word : (c : ℕ) (l w : List ℕ) → 58 ≤ c → Every (λ b. b < 58) l → same l (c ∷ w) ≡ false
unfolding same
no_word c [] w k h = refl
no_word c (b ∷ l) w k h = let n : b ≡ c → ⊥ = omega (arith, h.0) in rw (ne_eqb b c n)

loop_back : (n : ℕ) → leb n 60000 ≡ true → meaning (line_for (loop n)) ≡ says (loop n)
unfolding line_for count_text
loop_back n h = go (eqb n 0) refl
  where
    l : n ≤ 60000
    l = leb-true n 60000 h

    go : (t : Bool) → eqb n 0 ≡ t → meaning (ascii "#LOOP " ++ cond t (ascii "EVER") (decimal n)) ≡ says (loop n)
    go true e = rw (eqb-true n 0 e) (unfold choice argument trim_end before_end loop_of in refl)
    go false e =
        loop_line (decimal n)
        ∙ rw (decimal_word n l)
        (unfold loop_of in
        rw (not_empty (decimal n) (decimal_some n), no_word 69 (decimal n) (ascii "VER") (omega arith) (decimal_low n (omega (arith, l)))) (number_said n l loop))

byte_back : (n : ℕ) → leb n 60000 ≡ true → meaning (line_for (wait_byte n)) ≡ says (wait_byte n)
unfolding line_for byte_of
byte_back n h =
    let l : n ≤ 60000 = leb-true n 60000 h in
    byte_line (decimal n) ∙ rw (decimal_word n l, not_empty (decimal n) (decimal_some n)) (number_said n l wait_byte)

-- ---- times

-- a number and its unit, which begins with no digit
time_said : (n : ℕ) (unit : List ℕ) → n ≤ 60000 → Stops unit → time_of (decimal n ++ unit) ≡ time_in unit n
unfolding time_of time_by
time_said n unit h s = rw (decimal_read n h unit s, drop_at (decimal n) unit (length (decimal n)) refl)

time_back : (n : ℕ) → time_right n ≡ true → meaning (line_for (wait_time n)) ≡ says (wait_time n)
unfolding line_for time_text time_right digit_of time_in same
time_back n h = go (leb n 60000) refl h
  where
    go : (t : Bool) → leb n 60000 ≡ t → (t || (eqb (n % 1000) 0 && leb n 60000000)) ≡ true
        → meaning (ascii "#WAIT TIME " ++ cond t (decimal n ++ ascii "MS") (decimal (n / 1000) ++ ascii "S")) ≡ says (wait_time n)
    go true e r =
        let l : n ≤ 60000 = leb-true n 60000 e in
        time_line (decimal n ++ ascii "MS")
        ∙ rw (argument_solid (decimal n ++ ascii "MS") (solid_append (decimal n) (ascii "MS") (decimal_solid n (omega arith)) (omega arith)))
        (time_said n (ascii "MS") l (omega arith))
    go false e r =
        let w : n % 1000 ≡ 0 = eqb-true (n % 1000) 0 (both_left (eqb (n % 1000) 0) (leb n 60000000) r) in
        let l : n ≤ 60000000 = leb-true n 60000000 (both_right (eqb (n % 1000) 0) (leb n 60000000) r) in
        let q : n / 1000 ≤ 60000 = omega arith in
        let v : n / 1000 * 1000 ≡ n = omega arith in
        time_line (decimal (n / 1000) ++ ascii "S")
        ∙ rw (argument_solid (decimal (n / 1000) ++ ascii "S") (solid_append (decimal (n / 1000)) (ascii "S") (decimal_solid (n / 1000) (omega arith)) (omega arith)))
        (time_said (n / 1000) (ascii "S") q (omega arith) ∙ rw v)

-- ---- clock values, data, LOG, signals

clock_said : (vs : List ℕ) → clock_right vs ≡ true → meaning (line_for (wait_clock vs)) ≡ says (wait_clock vs)
unfolding line_for clock_says
clock_said vs h = clock_line (clock_text vs) ∙ rw (argument_solid (clock_text vs) (clock_solid vs h), clock_back vs h)

send_back : (bs : List ℕ) → all is_byte bs ≡ true → meaning (line_for (send bs)) ≡ says (send bs)
unfolding line_for data_text meaning send_says
send_back bs h = go (last_in_one send_room bs) (in_hex send_room bs) refl
  where
    go : (o t : Bool) → last_in_one send_room bs ≡ o → meaning (cond o (58 ∷ short_hex bs) (cond t (58 ∷ hex_text bs) (47 ∷ bs))) ≡ says (send bs)
    go true t e = rw (short_said send_room bs e h)
    go false true e = rw (hex_said bs h)
    go false false e = refl

data_back : (b : ℕ) (bs : List ℕ) → all is_byte (b ∷ bs) ≡ true → meaning (line_for (wait_data (b ∷ bs))) ≡ says (wait_data (b ∷ bs))
unfolding line_for data_text data_says
data_back b bs h = go (last_in_one wait_room (b ∷ bs)) (in_hex wait_room (b ∷ bs)) refl
  where
    go : (o t : Bool) → last_in_one wait_room (b ∷ bs) ≡ o
        → meaning (ascii "#WAIT DATA " ++ cond o (58 ∷ short_hex (b ∷ bs)) (cond t (58 ∷ hex_text (b ∷ bs)) (47 ∷ b ∷ bs))) ≡ says (wait_data (b ∷ bs))
    go true t e = hex_line (short_hex (b ∷ bs)) ∙ rw (short_said wait_room (b ∷ bs) e h)
    go false true e = hex_line (hex_text (b ∷ bs)) ∙ rw (hex_said (b ∷ bs) h)
    go false false e = text_line (b ∷ bs)

log_back : (text : List ℕ) → signs text false ≡ true → meaning (line_for (log text)) ≡ says (log text)
unfolding line_for log_text log_of
log_back [] h = unfold choice in refl
log_back (b ∷ text) h = log_line (b ∷ text) ∙ rw h

signal_back : (n : ℕ) (on : Bool) → leb n 4 ≡ true → meaning (line_for (wait_signal n on)) ≡ says (wait_signal n on)
unfolding line_for signal_text on_text choice
signal_back zero true h = refl
signal_back zero false h = refl
signal_back (suc zero) true h = refl
signal_back (suc zero) false h = refl
signal_back (suc (suc zero)) true h = refl
signal_back (suc (suc zero)) false h = refl
signal_back (suc (suc (suc zero))) true h = refl
signal_back (suc (suc (suc zero))) false h = refl
signal_back (suc (suc (suc (suc zero)))) true h = refl
signal_back (suc (suc (suc (suc zero)))) false h = refl
signal_back (suc (suc (suc (suc (suc n))))) on h = absurd (omega (arith, leb-true (suc (suc (suc (suc (suc n))))) 4 h))

rts_back : (on : Bool) → meaning (line_for (rts on)) ≡ says (rts on)
unfolding line_for on_text choice argument trim_end before_end rts_of
rts_back true = refl
rts_back false = refl

-- ---- every statement

pub back : (s : Statement) → right s ≡ true → meaning (line_for s) ≡ says s
unfolding right
back (send bs) h = unfold data_right in send_back bs (both_left (all is_byte bs) _ h)
back (loop n) h = loop_back n h
back end h = unfold line_for choice in refl
back (wait_time n) h = time_back n h
back (wait_data []) h = unfold same in true_is_false (sym h)
back (wait_data (b ∷ bs)) h = unfold same data_right in data_back b bs (both_left (all is_byte (b ∷ bs)) _ h)
back (wait_byte n) h = byte_back n h
back (wait_clock vs) h = clock_said vs h
back (wait_signal n on) h = signal_back n on h
back (rts on) h = rts_back on
back (log text) h = unfold log_right in log_back text (both_left (signs text false) _ (both_right (leb (length text) log_room) _ h))
back fchange h = unfold line_for choice in refl
back pause h = unfold line_for choice in refl
back resume h = unfold line_for choice in refl
back nop h = unfold line_for choice in refl
