-- THE FIRST BYTE THAT CANNOT BE TAKEN OF DATA AND TEXT: marked data, ENCODE's byte, LOG's signs. Assumes nothing.
use Rattle.std.specs.Prelude.{Ok, Err}
use Prim.Native.Nat.{ℕ, suc}
use mathlib.Core.Path.{◌≡◌, refl, sym, ap, ◌∙◌}
use mathlib.Core.Bool.{Bool, true, false, cond}
use mathlib.Core.List.{List, [], ◌∷◌, ◌++◌}
use native.Mathlib.Omega.{arith}
use lib.Dec.{ltb, eqb}
use lib.ListN.{length, take}
use Rattle.reader.specs.Bytes.{is_blank, is_byte, in_line}
use Rattle.reader.specs.FirstBad.{CanEnd, FirstBad}
use Rattle.reader.proofs.Tests.{true_is_false}
use Rattle.reader.proofs.Digits.{blank_digit}
use Rattle.reader.proofs.FirstBad.{bad_end, bad_here, bad_next, bad_as, none_bad}
use Rattle.words.specs.Words.{skip, before_end, trim_end, argument}
use Rattle.numbers.specs.Number.{NumberRead}
use Rattle.hex_data.specs.Hex.{Said, good, bad, is_good, hex_at, hex_byte_of, hex_byte_at, byte_place, is_byte_read}
use Rattle.hex_data.proofs.HexPlace.{is_some, digit_ends, hex_first_bad, byte_by_first, byte_first_bad}
use Rattle.language.specs.Script.{Meaning, says, log, set_encode}
use Rattle.language.specs.Meaning.{marked_data, data_says, send_says, omit_says, is_sign, signs, log_of, encode_hex, encode_byte, encode_of}
use Rattle.language.specs.Column.{faultless, hex_taken, marked_taken, encode_taken, signs_taken, log_taken, behind_blanks}
use Rattle.language.proofs.WordPlace.{right_checked}
use Rattle.language.proofs.RestPlace.{Follows, skip_bad, trim_kept}

-- ---- hex data

send_right : (x : Said) → faultless (send_says x) ≡ is_good x
unfolding send_says faultless
send_right (good bs) = refl
send_right (bad at) = refl

omit_right : (x : Said) → faultless (omit_says x) ≡ is_good x
unfolding omit_says faultless
omit_right (good bs) = refl
omit_right (bad at) = refl

data_right_lem : (x : Said) → faultless (data_says x) ≡ is_some x
unfolding data_says faultless
data_right_lem (good []) = refl
data_right_lem (good (b ∷ bs)) = refl
data_right_lem (bad at) = refl

pub hex_bad : (l : List ℕ) → FirstBad (λ a. is_good (hex_at a 0)) l (hex_taken l)
unfolding hex_taken
hex_bad l = hex_first_bad l

pub send_bad : (l : List ℕ) → FirstBad (λ a. faultless (send_says (hex_at a 0))) l (hex_taken l)
send_bad l = bad_as (λ a. sym (send_right (hex_at a 0))) (hex_bad l)

-- data that must not be empty: a digit ends them
not_good : (x : Said) → is_good x ≡ false → is_some x ≡ false
not_good (good bs) e = true_is_false e
not_good (bad at) e = refl

some_bad : (l : List ℕ) → FirstBad (λ a. is_some (hex_at a 0)) l (hex_taken l)
unfolding in_line is_byte
some_bad l =
    let f = hex_bad l in
    record {
      inside = f.inside;
      before = record { ending = 48 ∷ []; holds = refl; makes = digit_ends (take (hex_taken l) l) f.before.ending f.before.makes };
      never = λ h e. not_good (hex_at (take (suc (hex_taken l)) l ++ e) 0) (f.never h e);
    }

-- ---- marked data

-- bytes after `/`, one at least
some_text : (reads : Said → Meaning) → ((b : ℕ) (l : List ℕ) → faultless (reads (good (b ∷ l))) ≡ true) → (l : List ℕ) → FirstBad (λ a. faultless (reads (good a))) l (length l)
unfolding in_line is_byte
some_text reads h [] = bad_end (record { ending = 65 ∷ []; holds = refl; makes = h 65 [] })
some_text reads h (b ∷ l) = bad_next b l (none_bad (λ a. h b a) l)

-- after either mark; any other byte is no mark
module _ (reads : Said → Meaning) (texts : (b : ℕ) (l : List ℕ) → faultless (reads (good (b ∷ l))) ≡ true)
    (none : (at : ℕ) → faultless (reads (bad at)) ≡ false)
    (hexes : (l : List ℕ) → FirstBad (λ a. faultless (reads (hex_at a 0))) l (hex_taken l)) where
  marked_ends : CanEnd (λ a. faultless (reads (marked_data a))) []
  unfolding marked_data in_line is_byte
  marked_ends = record { ending = 47 ∷ 65 ∷ []; holds = refl; makes = texts 65 [] }

  marked_bad : (l : List ℕ) → FirstBad (λ a. faultless (reads (marked_data a))) l (marked_taken l)
  unfolding marked_data marked_taken
  marked_bad [] = bad_end marked_ends
  marked_bad (b ∷ l) = by_byte (eqb b 47) refl (eqb b 58) refl
    where
      by_byte : (t : Bool) → eqb b 47 ≡ t → (u : Bool) → eqb b 58 ≡ u
          → FirstBad (λ a. faultless (reads (marked_data a))) (b ∷ l) (cond (eqb b 47) (suc (length l)) (cond (eqb b 58) (suc (hex_taken l)) 0))
      by_byte true e u d = rw e (bad_next b l (bad_as (λ a. rw e) (some_text reads texts l)))
      by_byte false e true d = rw (e, d) (bad_next b l (bad_as (λ a. rw (e, d)) (hexes l)))
      by_byte false e false d = rw (e, d) (bad_here b l marked_ends (λ a. rw (e, d) (none 0)))

  marked_follows : Follows (λ rest. reads (marked_data (skip rest))) (behind_blanks marked_taken)
  unfolding behind_blanks skip is_blank marked_data in_line is_byte
  marked_follows =
      record {
        some = record { ending = 47 ∷ 65 ∷ []; holds = refl; makes = texts 65 [] };
        first = λ rest _. skip_bad (record { ending = 47 ∷ 65 ∷ []; holds = refl; makes = texts 65 [] }) rest (marked_taken (skip rest)) (marked_bad (skip rest));
      }

pub data_follows : Follows (λ rest. data_says (marked_data (skip rest))) (behind_blanks marked_taken)
unfolding data_says faultless
data_follows = marked_follows data_says (λ b l. refl) (λ at. refl) (λ l. bad_as (λ a. sym (data_right_lem (hex_at a 0))) (some_bad l))

pub omit_follows : Follows (λ rest. omit_says (marked_data (skip rest))) (behind_blanks marked_taken)
unfolding omit_says faultless
omit_follows = marked_follows omit_says (λ b l. refl) (λ at. refl) (λ l. bad_as (λ a. sym (omit_right (hex_at a 0))) (hex_bad l))

-- ---- LOG

signs_ends : (at : Bool) → CanEnd (λ a. signs a at) []
unfolding signs is_sign in_line is_byte
signs_ends true = record { ending = 99 ∷ []; holds = refl; makes = refl }
signs_ends false = record { ending = []; holds = refl; makes = refl }

signs_bad : (l : List ℕ) (at : Bool) → FirstBad (λ a. signs a at) l (signs_taken l at)
unfolding signs signs_taken
signs_bad [] at = bad_end (signs_ends at)
signs_bad (b ∷ l) false = bad_next b l (signs_bad l (eqb b 64))
signs_bad (b ∷ l) true = by_byte (signs_bad l false) (is_sign b) refl
  where
    by_byte : FirstBad (λ a. signs a false) l (signs_taken l false) → (t : Bool) → is_sign b ≡ t
        → FirstBad (λ a. signs a true) (b ∷ l) (cond (is_sign b) (suc (signs_taken l false)) 0)
    by_byte f true e = rw e (bad_next b l (bad_as (λ a. rw e) f))
    by_byte f false e = rw e (bad_here b l (signs_ends true) (λ a. rw e))

log_ends : CanEnd (λ a. faultless (log_of a)) []
unfolding log_of faultless
log_ends = record { ending = []; holds = refl; makes = refl }

pub log_bad : (l : List ℕ) → FirstBad (λ a. faultless (log_of a)) l (log_taken l)
unfolding log_of log_taken faultless
log_bad [] = bad_end log_ends
log_bad (b ∷ l) = by_byte (eqb b 32) refl
  where
    by_byte : (t : Bool) → eqb b 32 ≡ t → FirstBad (λ a. faultless (log_of a)) (b ∷ l) (cond (eqb b 32) (suc (signs_taken l false)) 0)
    by_byte true e = rw e (bad_next b l (bad_as (λ a. rw e (sym (right_checked (signs a false) (says (log a)) refl))) (signs_bad l false)))
    by_byte false e = rw e (bad_here b l log_ends (λ a. rw e))

pub log_follows : Follows log_of log_taken
unfolding log_of signs faultless
log_follows = record { some = record { ending = []; holds = refl; makes = refl }; first = λ rest _. log_bad rest }

-- ---- ENCODE

-- the first digit decides, so that what is cut off at the end does not matter
hex_trimmed : (a : List ℕ) → is_byte_read (hex_byte_at (trim_end a) 0) ≡ is_byte_read (hex_byte_at a 0)
unfolding hex_byte_at trim_end
hex_trimmed [] = refl
hex_trimmed (b ∷ a) = go (trim_end a) (is_blank b) refl
  where
    go : (l : List ℕ) (t : Bool) → is_blank b ≡ t → is_byte_read (hex_byte_of (before_end b l) 0) ≡ is_byte_read (hex_byte_of (b ∷ a) 0)
    go (c ∷ l) t e = unfold before_end in (byte_by_first b (c ∷ l) ∙ sym (byte_by_first b a))
    go [] true e = unfold before_end hex_byte_of in rw e (sym (byte_by_first b a ∙ ap (λ (d : ℕ). ltb d 16) (blank_digit b e)))
    go [] false e = unfold before_end in rw e (byte_by_first b [] ∙ sym (byte_by_first b a))

encode_hex_lem : (x : NumberRead) → faultless (encode_hex x) ≡ is_byte_read x
unfolding encode_hex faultless
encode_hex_lem (Ok n) = refl
encode_hex_lem (Err at) = refl

-- "`/` then a byte": some byte ends it
last_kept : (x : List ℕ) → faultless (encode_byte (trim_end (x ++ 65 ∷ []))) ≡ true
unfolding trim_end before_end is_blank encode_byte faultless
last_kept [] = refl
last_kept (b ∷ x) = go (trim_end (x ++ 65 ∷ [])) (last_kept x)
  where
    go : (l : List ℕ) → faultless (encode_byte l) ≡ true → faultless (encode_byte (before_end b l)) ≡ true
    go [] e = true_is_false (sym e)
    go (c ∷ l) e = refl

text_byte : (l : List ℕ) → FirstBad (λ a. faultless (encode_byte (trim_end a))) l (length l)
unfolding in_line is_byte
text_byte l =
    record {
      inside = omega arith;
      before = record { ending = 65 ∷ []; holds = refl; makes = last_kept (take (length l) l) };
      never = λ h e. absurd (omega arith);
    }

encode_ends : CanEnd (λ a. faultless (encode_of (trim_end a))) []
unfolding trim_end before_end is_blank encode_of faultless in_line is_byte
encode_ends = record { ending = 65 ∷ []; holds = refl; makes = refl }

-- bytes that begin with no space or tab
abbrev Front : List ℕ → Type 0
Front [] = Unit {0}
Front (b ∷ l) = is_blank b ≡ false

skip_front : (l : List ℕ) → Front (skip l)
unfolding skip
skip_front [] = tt
skip_front (b ∷ l) = go (is_blank b) refl (skip_front l)
  where
    go : (t : Bool) → is_blank b ≡ t → Front (skip l) → Front (cond t (skip l) (b ∷ l))
    go true e f = f
    go false e f = e

encode_bad : (l : List ℕ) → Front l → FirstBad (λ a. faultless (encode_of (trim_end a))) l (encode_taken l)
unfolding encode_taken
encode_bad [] h = bad_end encode_ends
encode_bad (b ∷ l) h = by_byte (eqb b 58) refl (eqb b 47) refl
  where
    first : (a : List ℕ) → encode_of (trim_end (b ∷ a)) ≡ cond (eqb b 58) (encode_hex (hex_byte_at (trim_end a) 0)) (cond (eqb b 47) (encode_byte (trim_end a)) (set_encode b))
    first a = unfold encode_of in rw (trim_kept b a h)

    by_byte : (t : Bool) → eqb b 58 ≡ t → (u : Bool) → eqb b 47 ≡ u
        → FirstBad (λ a. faultless (encode_of (trim_end a))) (b ∷ l) (cond (eqb b 58) (suc (byte_place (length l) (hex_byte_at l 0))) (suc (length l)))
    by_byte true e u d = rw e (bad_next b l (bad_as (λ a. sym (ap faultless (first a) ∙ rw e (encode_hex_lem (hex_byte_at (trim_end a) 0) ∙ hex_trimmed a))) (byte_first_bad l)))
    by_byte false e true d = rw e (bad_next b l (bad_as (λ a. sym (ap faultless (first a) ∙ rw (e, d))) (text_byte l)))
    by_byte false e false d = rw e (bad_next b l (none_bad (λ a. ap faultless (first a) ∙ unfold faultless in rw (e, d)) l))

pub encode_follows : Follows (λ rest. encode_of (argument rest)) (behind_blanks encode_taken)
unfolding argument behind_blanks skip is_blank trim_end before_end encode_of faultless in_line is_byte
encode_follows =
    record {
      some = record { ending = 65 ∷ []; holds = refl; makes = refl };
      first = λ rest _. skip_bad (record { ending = 65 ∷ []; holds = refl; makes = refl }) rest (encode_taken (skip rest)) (encode_bad (skip rest) (skip_front rest));
    }
