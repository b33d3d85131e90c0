-- The values that a line says are right: numbers, times, data, settings. Assumes nothing.
use Rattle.std.specs.Prelude.{Ok, Err}
use Prim.Native.Nat.{ℕ, zero, suc, ◌+◌, ◌-◌, ◌*◌, ◌%◌, ◌≤◌, ◌<◌}
use mathlib.Core.Path.{◌≡◌, refl}
use mathlib.Core.Bool.{Bool, true, false, cond, ◌&&◌, ◌||◌, or-true}
use mathlib.Core.List.{List, [], ◌∷◌}
use native.Mathlib.Omega.{arith}
use lib.Dec.{leb, eqb}
use lib.ListN.{length, drop}
use borrow.Author.Tests.{leb-true, leb-false, lt-ltb, le-leb, eq-eqb}
use Rattle.reader.specs.Ascii.{ascii}
use Rattle.reader.specs.Bytes.{all, same}
use Rattle.numbers.specs.Number.{NumberRead, number_at}
use Rattle.hex_data.specs.Hex.{Said, hex_at, hex_byte_at, good, bad}
use Rattle.reader.proofs.Tests.{both_left, both_right, by_cases}
use Rattle.language.specs.declared.TextFault.{TextFault}
use Rattle.language.specs.declared.TextFault.TheVariants.{BadRest}
use Rattle.language.specs.Limits.{line_limit, send_room, wait_room, log_room}
use Rattle.language.specs.Inside.Right.{omit_room, meaning_right}
use Rattle.language.specs.Script.{Statement, loop, wait_byte, log, Meaning, set_ex, says, set_encode, set_lfext, fault}
use Rattle.language.specs.Meaning.{checked, number_says, number, loop_of, byte_of, time_in, time_by, time_of, clock_says, marked_data, data_says, send_says, omit_says, rts_of, signs, log_of, encode_hex, encode_byte, encode_of, stopbits_of, raise, extension, lfext_of, ex_in}
use Rattle.language.specs.Listing.{last_in_one}
use Rattle.language.specs.Right.{is_byte, in_line, data_right, time_right, clock_right, log_right, right}
use Rattle.language.proofs.Bytes.{byte_is_lem, line_bytes}
use Rattle.language.proofs.LastDigit.{in_one}
use Rattle.language.proofs.Reading.{When, Reads, Bytes, number_reads, hex_data_right, hex_byte_reads}

-- nothing.

unfoldable pub Proper : Meaning → Type 0
Proper m = meaning_right m ≡ true

pub fault_ok : (n : TextFault) → Proper (fault n)
unfolding Proper meaning_right
fault_ok n = refl

pub ok_checked : (t : Bool) (m : Meaning) → (t ≡ true → Proper m) → Proper (checked t m)
ok_checked true m f = f refl
ok_checked false m f = fault_ok BadRest

pub ok_either : (t : Bool) (a b : Meaning) → Proper a → Proper b → Proper (cond t a b)
ok_either true a b p q = p
ok_either false a b p q = q

-- ---- numbers and times

pub number_ok : (s : ℕ → Statement) (a : List ℕ) → ((n : ℕ) → n ≤ 60000 → Proper (says (s n))) → Proper (number 60000 s a)
unfolding number
number_ok s a f = go (number_at 5 60000 a 0) (number_reads 5 60000 a 0)
  where
    go : (x : NumberRead) → Reads (λ v. v ≤ 60000) x → Proper (number_says s a x)
    go (Ok n) h = unfold number_says in ok_checked (eqb n.next (length a)) (says (s n.value)) (λ e. f n.value h)
    go (Err at) h = unfold number_says in fault_ok BadRest

pub loop_ok : (a : List ℕ) → Proper (loop_of a)
unfolding loop_of Proper meaning_right right
loop_ok a = ok_either (same a [] || same a (ascii "EVER")) _ _ refl (number_ok loop a (λ n h. le-leb n 60000 h))

pub byte_ok : (a : List ℕ) → Proper (byte_of a)
unfolding byte_of Proper meaning_right right
byte_ok a = ok_either (same a []) _ _ refl (number_ok wait_byte a (λ n h. le-leb n 60000 h))

pub millis : (n : ℕ) → n ≤ 60000 → time_right n ≡ true
unfolding time_right
millis n h = rw (le-leb n 60000 h)

pub whole_seconds : (n : ℕ) → n % 1000 ≡ 0 → n ≤ 60000000 → time_right n ≡ true
unfolding time_right
whole_seconds n e h = rw (eq-eqb (n % 1000) 0 e, le-leb n 60000000 h) (or-true (leb n 60000))

pub unit_ok : (unit : List ℕ) (v : ℕ) → v ≤ 60000 → Proper (time_in unit v)
unfolding time_in Proper meaning_right right
unit_ok unit v h =
    ok_either (same unit (ascii "MS")) _ _ (millis v h)
    (ok_either (same unit (ascii "S") || same unit []) _ _ (whole_seconds (v * 1000) (omega arith) (omega arith))
    (ok_checked (same unit (ascii "M") && leb v 999) _
    (λ e. whole_seconds (v * 60000) (omega arith) (omega (arith, leb-true v 999 (both_right (same unit (ascii "M")) (leb v 999) e))))))

pub time_ok : (a : List ℕ) → Proper (time_of a)
unfolding time_of
time_ok a = go (number_at 5 60000 a 0) (number_reads 5 60000 a 0)
  where
    go : (x : NumberRead) → Reads (λ v. v ≤ 60000) x → Proper (time_by a x)
    go (Ok n) h = unfold time_by in unit_ok (drop n.next a) n.value h
    go (Err zero) h = unfold time_by in unit_ok a 1 (omega arith)
    go (Err (suc at)) h = unfold time_by in fault_ok BadRest

-- ---- data

-- text, and hex, that a line has room for
pub text_right : (room : ℕ) (bs : List ℕ) → all in_line bs ≡ true → length bs ≤ room → data_right room bs ≡ true
unfolding data_right
text_right room bs e h = rw (line_bytes bs e, e, le-leb (length bs) room h, or-true (last_in_one room bs)) (or-true (leb (length bs * 2) room))

pub hex_fits : (n room : ℕ) (x : Said) → n ≤ room → When (Bytes n) x → When (λ bs. data_right room bs ≡ true) x
unfolding data_right
hex_fits n room (good bs) h r = rw r.small (go (leb (length bs * 2) room) refl)
  where
    go : (t : Bool) → leb (length bs * 2) room ≡ t → (t || (last_in_one room bs || (leb (length bs) room && all in_line bs))) ≡ true
    go true e = refl
    go false e =
        let over : room < length bs * 2 = leb-false (length bs * 2) room e in
        let k : length bs * 2 ≡ suc room = omega (arith, r.few) in
        rw (in_one room bs k (r.last (omega (arith, r.few))))
hex_fits n room (bad at) h r = tt

-- a part of a line: its bytes, and how many bytes stand before it at least
pub record Part (ahead : ℕ) (l : List ℕ) : Type 0 where
  pub room : ahead + length l ≤ line_limit
  pub whole : all in_line l ≡ true

-- `ahead` bytes, the mark, and the data
pub marked_right : (ahead : ℕ) (l : List ℕ) → Part ahead l → When (λ bs. data_right (126 - ahead) bs ≡ true) (marked_data l)
unfolding marked_data
marked_right ahead [] p = tt
marked_right ahead (b ∷ l) p =
    let rest : all in_line l ≡ true = both_right (in_line b) (all in_line l) p.whole in
    let few : length l ≤ 126 - ahead = omega (arith, p.room) in
    by_cases (When (λ bs. data_right (126 - ahead) bs ≡ true)) (eqb b 47) (good l) (cond (eqb b 58) (hex_at l 0) (bad 0))
    (λ e. text_right (126 - ahead) l rest few)
    (λ e. by_cases (When (λ bs. data_right (126 - ahead) bs ≡ true)) (eqb b 58) (hex_at l 0) (bad 0) (λ e₁. hex_fits (length l) (126 - ahead) (hex_at l 0) few (hex_data_right l)) (λ e₁. tt))

pub send_ok : (x : Said) → When (λ bs. data_right send_room bs ≡ true) x → Proper (send_says x)
unfolding send_says Proper meaning_right right
send_ok (good bs) h = h
send_ok (bad at) h = refl

pub data_ok : (x : Said) → When (λ bs. data_right wait_room bs ≡ true) x → Proper (data_says x)
unfolding data_says Proper meaning_right right same
data_ok (good []) h = refl
data_ok (good (b ∷ bs)) h = h
data_ok (bad at) h = refl

pub omit_ok : (x : Said) → When (λ bs. data_right omit_room bs ≡ true) x → Proper (omit_says x)
unfolding omit_says Proper meaning_right
omit_ok (good bs) h = h
omit_ok (bad at) h = refl

pub clock_ok : (x : Said) → When (λ vs. clock_right vs ≡ true) x → Proper (clock_says x)
unfolding clock_says Proper meaning_right right
clock_ok (good vs) h = h
clock_ok (bad at) h = refl

pub log_ok : (l : List ℕ) → Part 4 l → Proper (log_of l)
unfolding log_of Proper meaning_right right log_right
log_ok [] p = unfold signs in refl
log_ok (b ∷ text) p =
    let rest : all in_line text ≡ true = both_right (in_line b) (all in_line text) p.whole in
    let few : length text ≤ log_room = omega (arith, p.room) in
    ok_checked (eqb b 32 && signs text false) (says (log text))
    (λ e. rw (le-leb (length text) log_room few, both_right (eqb b 32) (signs text false) e, rest))

pub rts_ok : (a : List ℕ) → Proper (rts_of a)
unfolding rts_of Proper meaning_right right
rts_ok a = ok_either (same a (ascii "ON")) _ _ refl (ok_checked (same a (ascii "OFF")) _ (λ e. refl))

-- ---- settings

pub byte_right : (b : ℕ) → b < 256 → Proper (set_encode b)
unfolding Proper meaning_right is_byte
byte_right b h = lt-ltb b 256 h

pub encode_hex_ok : (x : NumberRead) → Reads (λ v. v < 256) x → Proper (encode_hex x)
unfolding encode_hex
encode_hex_ok (Ok n) h = byte_right n.value h
encode_hex_ok (Err at) h = fault_ok BadRest

pub encode_byte_ok : (l : List ℕ) → all is_byte l ≡ true → Proper (encode_byte l)
unfolding encode_byte Proper meaning_right
encode_byte_ok [] h = refl
encode_byte_ok (b ∷ l) h = both_left (is_byte b) (all is_byte l) h

pub encode_ok : (l : List ℕ) → all is_byte l ≡ true → Proper (encode_of l)
unfolding encode_of
encode_ok [] h = fault_ok BadRest
encode_ok (b ∷ l) h =
    ok_either (eqb b 58) _ _ (encode_hex_ok (hex_byte_at l 0) (hex_byte_reads l))
    (ok_either (eqb b 47) _ _ (encode_byte_ok l (both_right (is_byte b) (all is_byte l) h)) (byte_right b (byte_is_lem b (both_left (is_byte b) (all is_byte l) h))))

pub stopbits_ok : (a : List ℕ) → Proper (stopbits_of a)
unfolding stopbits_of Proper meaning_right
stopbits_ok a = refl

pub lfext_ok : (a : List ℕ) → Proper (lfext_of a)
unfolding lfext_of Proper meaning_right
lfext_ok a = ok_checked (extension (raise a)) (set_lfext (raise a)) (λ e. e)

pub ex_ok : (a : List ℕ) → Proper (ex_in a)
unfolding ex_in Proper meaning_right
ex_ok a = ok_checked (same a (ascii "IN")) set_ex (λ e. refl)
