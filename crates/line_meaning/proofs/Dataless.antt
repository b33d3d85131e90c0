-- Meanings without data. Assumes nothing.
use Rattle.std.specs.Prelude.{Ok, Err}
use Prim.Native.Nat.{ℕ, zero, suc, ◌*◌}
use mathlib.Core.Path.{◌≡◌, refl}
use mathlib.Core.Bool.{◌&&◌, ◌||◌}
use mathlib.Core.List.{List, [], ◌∷◌}
use lib.Dec.{leb, eqb}
use lib.ListN.{length, drop}
use Rattle.reader.specs.Ascii.{ascii}
use Rattle.reader.specs.Bytes.{is_blank, all, same}
use Rattle.numbers.specs.Number.{NumberRead, number_at}
use Rattle.hex_data.specs.Hex.{Said, hex_byte_at, good, bad}
use Rattle.reader.proofs.Tests.{by_cases}
use Rattle.language.specs.declared.TextFault.TheVariants.{BadRest}
use Rattle.language.specs.Script.{Statement, loop, wait_time, wait_byte, data_of, Meaning, set_ex, says, set_encode, set_lfext, fault}
use Rattle.language.specs.Meaning.{Entry, lookup, bare, number_says, number, loop_of, byte_of, time_in, time_by, time_of, clock_says, rts_of, encode_hex, encode_byte, encode_of, stopbits_of, extension, raise, lfext_of, ex_in}
use Rattle.line_values.specs.Inside.Line.{data_from}

abbrev pub Dataless : Meaning → Type 0
Dataless m = data_from m ≡ []

pub bare_quiet : (m : Meaning) → Dataless m → (rest : List ℕ) → Dataless (bare m rest)
unfolding bare data_from
bare_quiet m h rest = by_cases Dataless (all is_blank rest) m (fault BadRest) (λ e. h) (λ e. refl)

number_quiet : (s : ℕ → Statement) → ((v : ℕ) → data_of (s v) ≡ []) → (a : List ℕ) (n : NumberRead) → Dataless (number_says s a n)
unfolding number_says data_from
number_quiet s h a (Ok n) = by_cases Dataless (eqb n.next (length a)) (says (s n.value)) (fault BadRest) (λ e. h n.value) (λ e. refl)
number_quiet s h a (Err at) = refl

pub loop_quiet : (a : List ℕ) → Dataless (loop_of a)
unfolding loop_of number data_from data_of
loop_quiet a =
    by_cases Dataless (same a [] || same a (ascii "EVER")) (says (loop 0)) (number_says loop a (number_at 5 60000 a 0))
    (λ e. refl) (λ e. number_quiet loop (λ v. refl) a (number_at 5 60000 a 0))

pub byte_quiet : (a : List ℕ) → Dataless (byte_of a)
unfolding byte_of number data_from data_of
byte_quiet a =
    by_cases Dataless (same a []) (says (wait_byte 1)) (number_says wait_byte a (number_at 5 60000 a 0))
    (λ e. refl) (λ e. number_quiet wait_byte (λ v. refl) a (number_at 5 60000 a 0))

unit_quiet : (u : List ℕ) (v : ℕ) → Dataless (time_in u v)
unfolding time_in data_from data_of
unit_quiet u v =
    by_cases Dataless (same u (ascii "MS")) (says (wait_time v)) _ (λ e. refl)
    (λ e. by_cases Dataless (same u (ascii "S") || same u []) (says (wait_time (v * 1000))) _ (λ e₁. refl)
    (λ e₁. by_cases Dataless (same u (ascii "M") && leb v 999) (says (wait_time (v * 60000))) (fault BadRest) (λ e₂. refl) (λ e₂. refl)))

time_by_quiet : (a : List ℕ) (n : NumberRead) → Dataless (time_by a n)
unfolding time_by data_from
time_by_quiet a (Ok n) = unit_quiet (drop n.next a) n.value
time_by_quiet a (Err zero) = unit_quiet a 1
time_by_quiet a (Err (suc at)) = refl

pub time_quiet : (a : List ℕ) → Dataless (time_of a)
unfolding time_of
time_quiet a = time_by_quiet a (number_at 5 60000 a 0)

pub clock_quiet : (x : Said) → Dataless (clock_says x)
unfolding clock_says data_from data_of
clock_quiet (good vs) = refl
clock_quiet (bad at) = refl

pub rts_quiet : (a : List ℕ) → Dataless (rts_of a)
unfolding rts_of data_from data_of
rts_quiet a =
    by_cases Dataless (same a (ascii "ON")) _ _ (λ e. refl)
    (λ e. by_cases Dataless (same a (ascii "OFF")) _ (fault BadRest) (λ e₁. refl) (λ e₁. refl))

pub ex_quiet : (a : List ℕ) → Dataless (ex_in a)
unfolding ex_in data_from
ex_quiet a = by_cases Dataless (same a (ascii "IN")) set_ex (fault BadRest) (λ e. refl) (λ e. refl)

pub stopbits_quiet : (a : List ℕ) → Dataless (stopbits_of a)
unfolding stopbits_of data_from
stopbits_quiet a = refl

hex_quiet : (n : NumberRead) → Dataless (encode_hex n)
unfolding encode_hex data_from
hex_quiet (Ok n) = refl
hex_quiet (Err at) = refl

second_quiet : (l : List ℕ) → Dataless (encode_byte l)
unfolding encode_byte data_from
second_quiet [] = refl
second_quiet (b ∷ l) = refl

pub encode_quiet : (a : List ℕ) → Dataless (encode_of a)
unfolding encode_of data_from
encode_quiet [] = refl
encode_quiet (b ∷ l) =
    by_cases Dataless (eqb b 58) (encode_hex (hex_byte_at l 0)) _ (λ e. hex_quiet (hex_byte_at l 0))
    (λ e. by_cases Dataless (eqb b 47) (encode_byte l) (set_encode b) (λ e₁. second_quiet l) (λ e₁. refl))

pub lfext_quiet : (a : List ℕ) → Dataless (lfext_of a)
unfolding lfext_of data_from
lfext_quiet a = by_cases Dataless (extension (raise a)) (set_lfext (raise a)) (fault BadRest) (λ e. refl) (λ e. refl)

-- ---- a table whose readers find no data

abbrev pub Quiet : List Entry → Type 0
Quiet [] = Unit {0}
Quiet (e ∷ es) = ((rest : List ℕ) → Dataless (e.reader rest)) × Quiet es

pub lookup_quiet : (es : List Entry) → Quiet es → (w rest : List ℕ) → Dataless (lookup es w rest)
unfolding lookup data_from
lookup_quiet [] h w rest = refl
lookup_quiet (e ∷ es) h w rest = by_cases Dataless (same e.word w) (e.reader rest) (lookup es w rest) (λ q. h.0 rest) (λ q. lookup_quiet es h.1 w rest)
