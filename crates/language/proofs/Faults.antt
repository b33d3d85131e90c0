-- A LINE BY ITSELF HAS NO FAULT BUT 3 AND 4: so a line that is right for its column is one that neither number refuses. Assumes nothing.
use Rattle.std.specs.Prelude.{Ok, Err}
use Prim.Native.Nat.{ℕ, zero, suc, ◌*◌}
use mathlib.Core.Path.{◌≡◌, refl, sym, subst}
use mathlib.Core.Bool.{Bool, true, false, ◌&&◌, ◌||◌}
use mathlib.Core.List.{List, [], ◌∷◌}
use mathlib.Core.Logic.{◌⊎◌, inl, inr}
use lib.Dec.{leb, eqb}
use lib.ListN.{length}
use Rattle.reader.specs.Ascii.{ascii}
use Rattle.reader.specs.Bytes.{all, same, is_blank}
use Rattle.reader.proofs.Tests.{by_cases, true_is_false}
use Rattle.words.specs.Words.{skip, argument, word_of, after_word}
use Rattle.numbers.specs.Number.{NumberRead, number_at}
use Rattle.hex_data.specs.Hex.{Said, good, bad, hex_at, hex_byte_at}
use Rattle.language.specs.declared.TextFault.{TextFault}
use Rattle.language.specs.declared.TextFault.TheVariants.{NoSuchName, BadRest}
use Rattle.language.specs.Clock.{clock_of}
use Rattle.language.specs.Script.{Statement, loop, wait_time, wait_byte, rts, log, Meaning, blank, set_ex, says, set_lfext, fault}
use Rattle.language.specs.Column.{faultless}
use Rattle.language.specs.Meaning.{checked, bare, number_says, number, loop_of, byte_of, time_in, time_by, time_of, clock_says, marked_data, data_says, send_says, omit_says, rts_of, signs, log_of, encode_hex, encode_byte, encode_of, stopbits_of, raise, extension, lfext_of, ex_in, Entry, lookup, signal, waits, wait_of, names, named, meaning}

-- no fault, or one of the two
data Two : Meaning → Type 0 where
  right : {m : Meaning} → faultless m ≡ true → Two m
  three : Two (fault NoSuchName)
  four : Two (fault BadRest)

checked_two : (t : Bool) (m : Meaning) → Two m → Two (checked t m)
checked_two t m h = by_cases Two t m (fault BadRest) (λ e. h) (λ e. four)

-- ---- the readers

number_two : (limit : ℕ) (s : ℕ → Statement) (a : List ℕ) → Two (number limit s a)
unfolding number number_says faultless
number_two limit s a = go (number_at 5 limit a 0)
  where
    go : (x : NumberRead) → Two (number_says s a x)
    go (Ok n) = checked_two (eqb n.next (length a)) (says (s n.value)) (right refl)
    go (Err at) = four

loop_two : (a : List ℕ) → Two (loop_of a)
unfolding loop_of faultless
loop_two a = by_cases Two (same a [] || same a (ascii "EVER")) _ _ (λ e. right refl) (λ e. number_two 60000 loop a)

byte_two : (a : List ℕ) → Two (byte_of a)
unfolding byte_of faultless
byte_two a = by_cases Two (same a []) _ _ (λ e. right refl) (λ e. number_two 60000 wait_byte a)

unit_two : (u : List ℕ) (v : ℕ) → Two (time_in u v)
unfolding time_in faultless
unit_two u v =
    by_cases Two (same u (ascii "MS")) _ _ (λ e. right refl)
    (λ e. by_cases Two (same u (ascii "S") || same u []) _ _ (λ e₁. right refl) (λ e₁. checked_two (same u (ascii "M") && leb v 999) (says (wait_time (v * 60000))) (right refl)))

time_two : (a : List ℕ) → Two (time_of a)
unfolding time_of time_by
time_two a = go (number_at 5 60000 a 0)
  where
    go : (x : NumberRead) → Two (time_by a x)
    go (Ok n) = unit_two _ n.value
    go (Err zero) = unit_two a 1
    go (Err (suc at)) = four

clock_two : (x : Said) → Two (clock_says x)
unfolding clock_says faultless
clock_two (good vs) = right refl
clock_two (bad at) = four

data_two : (x : Said) → Two (data_says x)
unfolding data_says faultless
data_two (good []) = four
data_two (good (b ∷ bs)) = right refl
data_two (bad at) = four

send_two : (x : Said) → Two (send_says x)
unfolding send_says faultless
send_two (good bs) = right refl
send_two (bad at) = four

omit_two : (x : Said) → Two (omit_says x)
unfolding omit_says faultless
omit_two (good bs) = right refl
omit_two (bad at) = four

rts_two : (a : List ℕ) → Two (rts_of a)
unfolding rts_of faultless
rts_two a = by_cases Two (same a (ascii "ON")) _ _ (λ e. right refl) (λ e. checked_two (same a (ascii "OFF")) (says (rts false)) (right refl))

log_two : (l : List ℕ) → Two (log_of l)
unfolding log_of faultless
log_two [] = right refl
log_two (b ∷ text) = checked_two (eqb b 32 && signs text false) (says (log text)) (right refl)

encode_two : (a : List ℕ) → Two (encode_of a)
unfolding encode_of encode_hex encode_byte faultless
encode_two [] = four
encode_two (b ∷ l) =
    by_cases Two (eqb b 58) _ _ (λ e. hex (hex_byte_at l 0))
    (λ e. by_cases Two (eqb b 47) _ _ (λ e₁. text l) (λ e₁. right refl))
  where
    hex : (x : NumberRead) → Two (encode_hex x)
    hex (Ok n) = right refl
    hex (Err at) = four

    text : (t : List ℕ) → Two (encode_byte t)
    text [] = four
    text (c ∷ t) = right refl

bare_two : (m : Meaning) → Two m → (rest : List ℕ) → Two (bare m rest)
unfolding bare
bare_two m h rest = checked_two (all is_blank rest) m h

-- ---- the names

data AllTwo : List Entry → Type 0 where
  none : AllTwo []
  also : {e : Entry} {es : List Entry} → ((rest : List ℕ) → Two (e.reader rest)) → AllTwo es → AllTwo (e ∷ es)

lookup_two : (es : List Entry) → AllTwo es → (w rest : List ℕ) → Two (lookup es w rest)
unfolding lookup
lookup_two [] none w rest = three
lookup_two (e ∷ es) (also f a) w rest = by_cases Two (same e.word w) _ _ (λ q. f rest) (λ q. lookup_two es a w rest)

waits_two : AllTwo waits
unfolding waits signal faultless
waits_two =
    also (λ rest. time_two (argument rest))
    (also (λ rest. data_two (marked_data (skip rest)))
    (also (λ rest. byte_two (argument rest))
    (also (λ rest. clock_two (clock_of (argument rest)))
    (also (bare_two _ (right refl))
    (also (bare_two _ (right refl))
    (also (bare_two _ (right refl))
    (also (bare_two _ (right refl))
    (also (bare_two _ (right refl))
    (also (bare_two _ (right refl))
    (also (bare_two _ (right refl)) (also (bare_two _ (right refl)) (also (bare_two _ (right refl)) (also (bare_two _ (right refl)) none)))))))))))))

names_two : AllTwo names
unfolding names wait_of stopbits_of ex_in lfext_of faultless
names_two =
    also (λ rest. loop_two (argument rest))
    (also (bare_two _ (right refl))
    (also (λ rest. lookup_two waits waits_two (word_of (skip rest)) (after_word (skip rest)))
    (also (λ rest. rts_two (argument rest))
    (also log_two
    (also (bare_two _ (right refl))
    (also (bare_two _ (right refl))
    (also (bare_two _ (right refl))
    (also (bare_two _ (right refl))
    (also (bare_two _ (right refl))
    (also (λ rest. encode_two (argument rest))
    (also (λ rest. right refl)
    (also (λ rest. checked_two (same (argument rest) (ascii "IN")) set_ex (right refl))
    (also (λ rest. checked_two (same (argument rest) (ascii "IN")) set_ex (right refl))
    (also (λ rest. checked_two (same (argument rest) (ascii "IN")) set_ex (right refl))
    (also (λ rest. checked_two (same (argument rest) (ascii "IN")) set_ex (right refl))
    (also (λ rest. omit_two (marked_data (skip rest)))
    (also (λ rest. checked_two (extension (raise (argument rest))) (set_lfext (raise (argument rest))) (right refl)) none)))))))))))))))))

-- ---- the line

line_two : (l : List ℕ) → Two (meaning l)
unfolding meaning named faultless
line_two [] = right refl
line_two (b ∷ l) =
    by_cases Two (eqb b 59) _ _ (λ e. right refl)
    (λ e. by_cases Two (eqb b 47) _ _ (λ e₁. right refl)
    (λ e₁. by_cases Two (eqb b 58) _ _ (λ e₂. send_two (hex_at l 0))
    (λ e₂. by_cases Two (is_blank b && all is_blank l) blank (named (b ∷ l)) (λ e₃. right refl) (λ e₃. lookup_two names names_two (word_of (b ∷ l)) (after_word (b ∷ l))))))

one_of : {f : TextFault} → Two (fault f) → (f ≡ NoSuchName) ⊎ (f ≡ BadRest)
unfolding faultless
one_of (right e) = true_is_false (sym e)
one_of three = inl refl
one_of four = inr refl

-- "no mark or name above" 3, or "the rest missing, bad or surplus" 4
pub two_faults : (l : List ℕ) (f : TextFault) → meaning l ≡ fault f → (f ≡ NoSuchName) ⊎ (f ≡ BadRest)
two_faults l f e = one_of (subst Two e (line_two l))
