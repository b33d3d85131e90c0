-- What a line begins with: one law for each way on of `read_line`. Assumes nothing.
use Prim.Native.Nat.{ℕ, ◌-◌, ◌≤◌, ◌<◌}
use mathlib.Core.Path.{◌≡◌, refl, sym, ◌∙◌}
use mathlib.Core.Bool.{Bool, true, false, not}
use mathlib.Core.List.{List, [], ◌∷◌}
use native.Mathlib.Omega.{arith}
use lib.Dec.{eqb}
use lib.ListN.{length, take, drop, get_or}
use lib.Seq.{sets}
use borrow.Author.Tests.{lt-ltb, le-ltb, ne_eqb}
use Rattle.reader.specs.Bytes.{is_blank, all}
use Rattle.words.specs.Words.{word_of, after_word}
use Rattle.hex_data.specs.Hex.{hex_at}
use Rattle.reader.proofs.Tests.{by_cases}
use Rattle.language.specs.declared.TextFault.TheVariants.{LineTooLong, NoSuchName}
use Rattle.language.specs.Script.{Meaning, comment, blank, says, send, fault}
use Rattle.language.specs.Meaning.{lookup, send_says, names, named, meaning}
use Rattle.line_values.specs.declared.Line.{Line}
use Rattle.line_values.specs.declared.Line.TheVariants.{Comment, Blank}
use Rattle.std.specs.Prelude.{Result, Ok, Err}
use Rattle.language.specs.declared.TextFault.{TextFault}
use Rattle.line_values.specs.Inside.Line.{line_from, data_from}
use Rattle.line_meaning.specs.Inside.Line.{meaning_in, line_of, line_data}
use Rattle.line_meaning.specs.Inside.Reading.{ReadsLine}
use Rattle.line_meaning.specs.Inside.Names.{only}
use Rattle.line_values.proofs.Cuts.{to_end}
use Rattle.line_meaning.proofs.NameTables.{parted}

abbrev tail : List ℕ → List ℕ
tail l = take (length l - 1) (drop 1 l)

-- ---- the line as a whole

pub too_long : (l d : List ℕ) → 127 < length l → (Err LineTooLong ≡ line_of l) × (d ≡ sets d 0 (line_data l))
unfolding line_of line_data meaning_in line_from data_from
too_long l d h = (rw (lt-ltb 127 (length l) h), rw (lt-ltb 127 (length l) h))

-- a line of at most 127 bytes, whose meaning is found
pub reads : (l : List ℕ) {d e : List ℕ} {line : Result Line TextFault} (m : Meaning) → length l ≤ 127 → meaning l ≡ m → ReadsLine m line d e
    → (line ≡ line_of l) × (e ≡ sets d 0 (line_data l))
unfolding line_of line_data meaning_in
reads l m h p t = (rw (le-ltb 127 (length l) h, p) t.told, rw (le-ltb 127 (length l) h, p) t.written)

pub tells_blank : (d : List ℕ) → ReadsLine blank (Ok Blank) d d
unfolding line_from data_from
tells_blank d = record { told = refl; written = refl }

pub tells_comment : (d : List ℕ) → ReadsLine comment (Ok Comment) d d
unfolding line_from data_from
tells_comment d = record { told = refl; written = refl }

-- ---- its first byte

pub empty : (l : List ℕ) → length l ≡ 0 → meaning l ≡ blank
unfolding meaning
empty [] h = refl
empty (b ∷ l) h = absurd (omega arith)

pub semicolon : (l : List ℕ) → (length l ≡ 0 → ⊥) → get_or l 0 0 ≡ 59 → meaning l ≡ comment
unfolding meaning
semicolon [] h e = absurd (h refl)
semicolon (b ∷ l) h e = rw e

pub hash : (l : List ℕ) → (length l ≡ 0 → ⊥) → get_or l 0 0 ≡ 35 → meaning l ≡ named l
unfolding meaning is_blank
hash [] h e = absurd (h refl)
hash (b ∷ l) h e = rw e

pub slash : (l : List ℕ) → (length l ≡ 0 → ⊥) → get_or l 0 0 ≡ 47 → meaning l ≡ says (send (tail l))
unfolding meaning
slash [] h e = absurd (h refl)
slash (b ∷ l) h e = rw (to_end (b ∷ l) 1, e)

pub colon : (l : List ℕ) → (length l ≡ 0 → ⊥) → get_or l 0 0 ≡ 58 → meaning l ≡ send_says (hex_at (tail l) 0)
unfolding meaning
colon [] h e = absurd (h refl)
colon (b ∷ l) h e = rw (to_end (b ∷ l) 1, e)

-- a word that does not begin with `#` is no name
first_byte : (b : ℕ) (l : List ℕ) → (b ≡ 35 → ⊥) → not (eqb (get_or (word_of (b ∷ l)) 0 0) 35) ≡ true
unfolding word_of
first_byte b l h = by_cases (λ (w : List ℕ). not (eqb (get_or w 0 0) 35) ≡ true) (is_blank b) [] (b ∷ word_of l) (λ e. refl) (λ e. rw (ne_eqb b 35 h))

no_name : (b : ℕ) (l : List ℕ) → (b ≡ 35 → ⊥) → named (b ∷ l) ≡ fault NoSuchName
unfolding named only names lookup
no_name b l h = parted (λ w. not (eqb (get_or w 0 0) 35)) names (word_of (b ∷ l)) (after_word (b ∷ l)) (first_byte b l h)

module _ (l : List ℕ) {t : Bool} (some : length l ≡ 0 → ⊥) (told : t ≡ all is_blank l) where
  pub blank_line : (get_or l 0 0 ≡ 59 → ⊥) → (get_or l 0 0 ≡ 47 → ⊥) → (get_or l 0 0 ≡ 58 → ⊥) → t ≡ true → meaning l ≡ blank
  blank_line p q r e = go l some p q r (sym told ∙ e)
    where
      go : (l : List ℕ) → (length l ≡ 0 → ⊥) → (get_or l 0 0 ≡ 59 → ⊥) → (get_or l 0 0 ≡ 47 → ⊥) → (get_or l 0 0 ≡ 58 → ⊥) → all is_blank l ≡ true → meaning l ≡ blank
      go [] h p q r e = absurd (h refl)
      go (b ∷ l) h p q r e = unfold meaning in rw (ne_eqb b 59 p, ne_eqb b 47 q, ne_eqb b 58 r, e)

  pub unknown_line : (get_or l 0 0 ≡ 59 → ⊥) → (get_or l 0 0 ≡ 35 → ⊥) → (get_or l 0 0 ≡ 47 → ⊥) → (get_or l 0 0 ≡ 58 → ⊥) → t ≡ false → meaning l ≡ fault NoSuchName
  unknown_line p n q r e = go l some p n q r (sym told ∙ e)
    where
      go : (l : List ℕ) → (length l ≡ 0 → ⊥) → (get_or l 0 0 ≡ 59 → ⊥) → (get_or l 0 0 ≡ 35 → ⊥) → (get_or l 0 0 ≡ 47 → ⊥) → (get_or l 0 0 ≡ 58 → ⊥) → all is_blank l ≡ false
          → meaning l ≡ fault NoSuchName
      go [] h p n q r e = absurd (h refl)
      go (b ∷ l) h p n q r e = unfold meaning in rw (ne_eqb b 59 p, ne_eqb b 47 q, ne_eqb b 58 r, e) (no_name b l n)
