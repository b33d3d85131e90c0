-- The lines of the settings. Assumes nothing.
use Prim.Native.Nat.{ℕ, ◌≤◌}
use mathlib.Core.Path.{◌≡◌, refl, sym, ap}
use mathlib.Core.Bool.{Bool, true, false, cond, not}
use mathlib.Core.List.{List, [], ◌∷◌, ◌++◌}
use native.Mathlib.Omega.{arith}
use lib.ListN.{length, take, length-take}
use Rattle.reader.specs.Ascii.{ascii}
use Rattle.reader.specs.Bytes.{same}
use Rattle.writer.specs.Hex.{hex_text}
use Rattle.language.specs.declared.Heads.{Heads}
use Rattle.language.specs.declared.Table.{Table}
use Rattle.language.specs.Script.{unset, byte}
use Rattle.language.specs.Listing.{line_if, encode_lines, setting_lines, listed_lines, with_line_ends, listing}
use Rattle.language.specs.Table.{letters_of, settings_of, script_of}
use Rattle.accepted.specs.Inside.Heads.{ends_of}
use Rattle.accepted.proofs.Extension.{letters_first, letters_count}
use Rattle.lister.specs.Inside.Printed.{FitsListing, Printed, line_ended, printed_settings, printed_body}
use Rattle.lister.specs.Listed.{listing_of}
use Rattle.lister.proofs.Printing.{printed_is, printed_more, room_is, first_room, then_room}
use Rattle.lister.proofs.Lining.{joined_append}

-- a line that stands there, and one that does not
pub stands : {t : Bool} (l : List ℕ) → t ≡ true → line_ended l ≡ with_line_ends (line_if t l)
unfolding with_line_ends
stands l e = rw e

pub stands_not : {t : Bool} (l : List ℕ) → t ≡ false → [] ≡ with_line_ends (line_if t l)
unfolding with_line_ends
stands_not l e = rw e

module _ (b : ℕ) {t : Bool} where
  pub encode_set : t ≡ true → line_ended (ascii "#f:ENCODE :" ++ hex_text (b ∷ [])) ≡ with_line_ends (encode_lines (cond t (byte b) unset))
  unfolding with_line_ends encode_lines
  encode_set e = rw e

  pub encode_unset : t ≡ false → [] ≡ with_line_ends (encode_lines (cond t (byte b) unset))
  unfolding with_line_ends encode_lines
  encode_unset e = rw e

module _ (omit : List ℕ) where
  pub omits_none : length omit ≡ 0 → not (same omit []) ≡ false
  unfolding same
  omits_none = go omit
    where
      go : (l : List ℕ) → length l ≡ 0 → not (same l []) ≡ false
      go [] h = refl
      go (b ∷ l) h = absurd (omega arith)

  pub omits_some : (length omit ≡ 0 → ⊥) → not (same omit []) ≡ true
  unfolding same
  omits_some = go omit
    where
      go : (l : List ℕ) → (length l ≡ 0 → ⊥) → not (same l []) ≡ true
      go [] h = absurd (h refl)
      go (b ∷ l) h = refl

-- the letters are the first bytes
pub letters_inside : (e : List ℕ) {n : ℕ} → n ≡ length (letters_of e) → n ≤ length e
letters_inside e {n} is = let l : n ≡ length (take n e) = letters_count e is in omega (arith, length-take n e)

pub letters_are : (e : List ℕ) {n : ℕ} → n ≡ length (letters_of e) → take n e ≡ letters_of e
letters_are e is = rw is (letters_first e)

-- the line of OMIT
abbrev pub omit_line : List ℕ → List ℕ
omit_line o = with_line_ends (line_if (not (same o [])) (ascii "#f:OMIT :" ++ hex_text o))

module _ (h : Heads) where
  -- the line of each setting, or nothing
  abbrev pub encode_text : List ℕ
  encode_text = with_line_ends (encode_lines (cond h.encodes (byte h.encode) unset))

  abbrev pub stopbits_text : List ℕ
  stopbits_text = with_line_ends (line_if h.two_stop_bits (ascii "#f:STOPBITS 2"))

  abbrev pub omit_text : List ℕ
  omit_text = omit_line (take h.omits h.omit)

  pub omit_is : {bs : List ℕ} → bs ≡ take h.omits h.omit → omit_line bs ≡ omit_text
  omit_is e = ap omit_line e

  abbrev pub lfext_text : List ℕ
  lfext_text = with_line_ends (line_if (not (same (letters_of h.extension) (ascii "LOG"))) (ascii "#f:LFEXT " ++ letters_of h.extension))

  pub settings_parts : encode_text ++ (stopbits_text ++ (omit_text ++ lfext_text)) ≡ printed_settings h
  unfolding printed_settings setting_lines settings_of
  settings_parts = sym (rw (joined_append, joined_append, joined_append))

  module _ {at : ℕ} (room : FitsListing at (printed_settings h)) where
    all_room : FitsListing at (encode_text ++ (stopbits_text ++ (omit_text ++ lfext_text)))
    all_room = room_is settings_parts room

    pub encode_room : FitsListing at encode_text
    encode_room = first_room encode_text (stopbits_text ++ (omit_text ++ lfext_text)) all_room

    module _ {d d₁ : List ℕ} {p : ℕ} (x : Printed encode_text d at p d₁) where
      rest₁ : FitsListing p (stopbits_text ++ (omit_text ++ lfext_text))
      rest₁ = then_room encode_text (stopbits_text ++ (omit_text ++ lfext_text)) all_room x.place

      pub stopbits_room : FitsListing p stopbits_text
      stopbits_room = first_room stopbits_text (omit_text ++ lfext_text) rest₁

      module _ {d₂ : List ℕ} {p₂ : ℕ} (x₂ : Printed stopbits_text d₁ p p₂ d₂) where
        rest₂ : FitsListing p₂ (omit_text ++ lfext_text)
        rest₂ = then_room stopbits_text (omit_text ++ lfext_text) rest₁ x₂.place

        pub omit_room_lem : FitsListing p₂ omit_text
        omit_room_lem = first_room omit_text lfext_text rest₂

        module _ {d₃ : List ℕ} {p₃ : ℕ} (x₃ : Printed omit_text d₂ p₂ p₃ d₃) where
          pub lfext_room : FitsListing p₃ lfext_text
          lfext_room = then_room omit_text lfext_text rest₂ x₃.place

          pub settings_printed : {e : List ℕ} {r : ℕ} → Printed lfext_text d₃ p₃ r e → Printed (printed_settings h) d at r e
          settings_printed x₄ = printed_is settings_parts (printed_more x (printed_more x₂ (printed_more x₃ x₄)))

-- the settings, then the body
pub listing_parts : (t : Table) → printed_settings t.heads ++ printed_body t.pool t.cells (ends_of t.heads) ≡ listing_of t
unfolding listing listed_lines script_of printed_settings printed_body
listing_parts t = sym (joined_append _ _)
