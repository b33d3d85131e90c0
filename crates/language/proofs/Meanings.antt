-- THE MEANING OF ANY LINE IS RIGHT: what a line of at most 127 bytes says is a statement that the listing can write. Assumes
use Prim.Native.Nat.{ℕ, suc, ◌+◌, ◌-◌, ◌≤◌, ◌<◌}
use mathlib.Core.Path.{◌≡◌, refl}
use mathlib.Core.Bool.{Bool, true, false, ◌&&◌}
use mathlib.Core.List.{List, [], ◌∷◌}
use native.Mathlib.Omega.{arith}
use lib.Dec.{leb, eqb}
use lib.ListN.{length}
use Rattle.reader.specs.Bytes.{is_blank, all, same}
use Rattle.words.specs.Words.{skip, argument, word_of, after_word}
use Rattle.hex_data.specs.Hex.{hex_at}
use Rattle.reader.proofs.Tests.{both_right, by_cases}
use Rattle.reader.proofs.Same.{same_is}
use Rattle.language.specs.declared.TextFault.TheVariants.{NoSuchName}
use Rattle.language.specs.Limits.{line_limit, send_room}
use Rattle.language.specs.Inside.Right.{meaning_right}
use Rattle.language.specs.Clock.{clock_of}
use Rattle.language.specs.Script.{Statement, send, end, wait_signal, fchange, pause, resume, nop, Meaning, comment, blank, process, says}
use Rattle.language.specs.Meaning.{bare, marked_data, send_says, Entry, lookup, signal, waits, wait_of, names, named, meaning}
use Rattle.language.specs.Right.{is_byte, in_line, data_right, right}
use Rattle.language.proofs.Bytes.{line_bytes}
use Rattle.language.proofs.Reading.{When, hex_data_right, clock_right_lem}
use Rattle.language.proofs.Gaps.{all_skip, all_after, all_argument, word_length_lem, word_gap}
use Rattle.language.proofs.MeaningValues.{Proper, fault_ok, ok_checked, ok_either, loop_ok, byte_ok, time_ok, text_right, hex_fits, Part, marked_right, send_ok, data_ok, omit_ok, clock_ok, log_ok, rts_ok, encode_ok, stopbits_ok, lfext_ok, ex_ok}

-- ---- names

-- what a word is followed by: `ahead` bytes stand before it, and a space or a tab stands first in it, if it says anything
record Rest (ahead : ℕ) (l : List ℕ) : Type 0 where
  part : Part ahead l
  gap : 0 < length (skip l) → length (skip l) < length l

skipped : {ahead : ℕ} (l : List ℕ) → Rest ahead l → 0 < length (skip l) → Part (suc ahead) (skip l)
skipped l r h =
    record { room = omega (arith, r.part.room, r.gap h); whole = all_skip in_line l r.part.whole }

after_word_lem : {ahead : ℕ} (l : List ℕ) → Part ahead l → Rest (ahead + length (word_of l)) (after_word l)
after_word_lem l p =
    record {
      part = record { room = omega (arith, p.room, word_length_lem l); whole = all_after in_line l p.whole };
      gap = word_gap l;
    }

-- each reader of a table is right, if `ahead` bytes stand before the word
Reader : ℕ → Entry → Type 0
Reader ahead e = (rest : List ℕ) → Rest (ahead + length e.word) rest → Proper (e.reader rest)

data AllOk (ahead : ℕ) : List Entry → Type 0 where
  none : AllOk ahead []
  also : {e : Entry} {es : List Entry} → Reader ahead e → AllOk ahead es → AllOk ahead (e ∷ es)

lookup_ok : (ahead : ℕ) (es : List Entry) (w rest : List ℕ) → AllOk ahead es → Rest (ahead + length w) rest → Proper (lookup es w rest)
unfolding lookup Reader
lookup_ok ahead [] w rest none r = fault_ok NoSuchName
lookup_ok ahead (e ∷ es) w rest (also f a) r =
    by_cases Proper (same e.word w) (e.reader rest) (lookup es w rest)
    (λ q. f rest (rw (same_is e.word w q) r))
    (λ q. lookup_ok ahead es w rest a r)

bare_ok : (m : Meaning) (rest : List ℕ) → Proper m → Proper (bare m rest)
unfolding bare
bare_ok m rest h = ok_checked (all is_blank rest) m (λ e. h)

simple_ok : (s : Statement) (rest : List ℕ) → right s ≡ true → Proper (bare (says s) rest)
simple_ok s rest h = bare_ok (says s) rest (unfold Proper meaning_right in h)

signal_ok : (n : ℕ) (on : Bool) (rest : List ℕ) → leb n 4 ≡ true → Proper (signal n on rest)
unfolding signal right
signal_ok n on rest h = simple_ok (wait_signal n on) rest h

-- data after a name
named_data : (ahead : ℕ) (l : List ℕ) → Rest ahead l → When (λ bs. data_right (125 - ahead) bs ≡ true) (marked_data (skip l))
named_data ahead l r = go (skip l) (λ h. skipped l r h)
  where
    go : (x : List ℕ) → (0 < length x → Part (suc ahead) x) → When (λ bs. data_right (125 - ahead) bs ≡ true) (marked_data x)
    go [] f = unfold marked_data in tt
    go (b ∷ x) f =
        let e : 126 - suc ahead ≡ 125 - ahead = omega arith in
        rw e at (marked_right (suc ahead) (b ∷ x) (f (omega arith)))

waits_ok : AllOk 6 waits
unfolding waits Reader
waits_ok =
    also (λ rest r. time_ok (argument rest))
    (also (λ rest r. data_ok (marked_data (skip rest)) (named_data 10 rest r))
    (also (λ rest r. byte_ok (argument rest))
    (also (λ rest r. clock_ok (clock_of (argument rest)) (clock_right_lem (argument rest)))
    (also (λ rest r. signal_ok 0 true rest refl)
    (also (λ rest r. signal_ok 0 false rest refl)
    (also (λ rest r. signal_ok 1 true rest refl)
    (also (λ rest r. signal_ok 1 false rest refl)
    (also (λ rest r. signal_ok 2 true rest refl)
    (also (λ rest r. signal_ok 2 false rest refl)
    (also (λ rest r. signal_ok 3 true rest refl)
    (also (λ rest r. signal_ok 3 false rest refl)
    (also (λ rest r. signal_ok 4 true rest refl)
    (also (λ rest r. signal_ok 4 false rest refl) none)))))))))))))

wait_ok : (rest : List ℕ) → Rest 5 rest → Proper (wait_of (skip rest))
unfolding wait_of
wait_ok rest r = go (skip rest) (λ h. skipped rest r h)
  where
    go : (x : List ℕ) → (0 < length x → Part 6 x) → Proper (lookup waits (word_of x) (after_word x))
    go [] f = unfold word_of lookup waits same in fault_ok NoSuchName
    go (b ∷ x) f = lookup_ok 6 waits (word_of (b ∷ x)) (after_word (b ∷ x)) waits_ok (after_word_lem (b ∷ x) (f (omega arith)))

names_ok : AllOk 0 names
unfolding names right Reader
names_ok =
    also (λ rest r. loop_ok (argument rest))
    (also (λ rest r. simple_ok end rest refl)
    (also (λ rest r. wait_ok rest r)
    (also (λ rest r. rts_ok (argument rest))
    (also (λ rest r. log_ok rest r.part)
    (also (λ rest r. simple_ok fchange rest refl)
    (also (λ rest r. simple_ok pause rest refl)
    (also (λ rest r. simple_ok resume rest refl)
    (also (λ rest r. simple_ok nop rest refl)
    (also (λ rest r. bare_ok process rest (unfold Proper meaning_right in refl))
    (also (λ rest r. encode_ok (argument rest) (all_argument is_byte rest (line_bytes rest r.part.whole)))
    (also (λ rest r. stopbits_ok (argument rest))
    (also (λ rest r. ex_ok (argument rest))
    (also (λ rest r. ex_ok (argument rest))
    (also (λ rest r. ex_ok (argument rest))
    (also (λ rest r. ex_ok (argument rest))
    (also (λ rest r. omit_ok (marked_data (skip rest)) (named_data 7 rest r))
    (also (λ rest r. lfext_ok (argument rest)) none)))))))))))))))))

-- ---- every line

named_ok : (l : List ℕ) → Part 0 l → Proper (named l)
unfolding named
named_ok l p = lookup_ok 0 names (word_of l) (after_word l) names_ok (after_word_lem l p)

text_ok : (l : List ℕ) → all in_line l ≡ true → length l ≤ send_room → Proper (says (send l))
unfolding Proper meaning_right right
text_ok l e h = text_right send_room l e h

comment_ok : Proper comment
unfolding Proper meaning_right
comment_ok = refl

blank_ok : Proper blank
unfolding Proper meaning_right
blank_ok = refl

meaning_ok : (l : List ℕ) → Part 0 l → Proper (meaning l)
unfolding meaning
meaning_ok [] p = blank_ok
meaning_ok (b ∷ l) p =
    let rest : all in_line l ≡ true = both_right (in_line b) (all in_line l) p.whole in
    let few : length l ≤ send_room = omega (arith, p.room) in
    ok_either (eqb b 59) comment _ comment_ok
    (ok_either (eqb b 47) (says (send l)) _ (text_ok l rest few)
    (ok_either (eqb b 58) (send_says (hex_at l 0)) _ (send_ok (hex_at l 0) (hex_fits (length l) send_room (hex_at l 0) few (hex_data_right l)))
    (ok_either (is_blank b && all is_blank l) blank (named (b ∷ l)) blank_ok (named_ok (b ∷ l) p))))

pub meaning_right_lem : (l : List ℕ) → length l ≤ line_limit → all in_line l ≡ true → meaning_right (meaning l) ≡ true
unfolding Proper
meaning_right_lem l h e = meaning_ok l (record { room = omega arith; whole = e })
