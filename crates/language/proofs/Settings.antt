-- The meaning of each listed line of the settings and of a PROCESS line, and that it is fine. Assumes nothing.
use Prim.Native.Nat.{ℕ, ◌+◌, ◌*◌, ◌/◌, ◌%◌, ◌≤◌, ◌<◌}
use mathlib.Core.Path.{◌≡◌, refl, ◌∙◌}
use mathlib.Core.Bool.{Bool, true, false, ◌&&◌, ◌||◌}
use mathlib.Core.List.{List, [], ◌∷◌, ◌++◌}
use native.Mathlib.Omega.{arith}
use lib.Dec.{ltb, leb}
use lib.ListN.{length}
use borrow.Author.Tests.{lt-ltb, leb-true, lt-leb}
use Rattle.reader.specs.Ascii.{ascii}
use Rattle.reader.specs.Bytes.{all}
use Rattle.words.specs.Words.{before_end, trim_end, argument}
use Rattle.hex_data.specs.Hex.{hex_at, hex_byte_at, hex_byte_of, hex_second}
use Rattle.writer.specs.Hex.{hex_text}
use Rattle.reader.proofs.Tests.{both_left, both_right, Every, every_of}
use Rattle.reader.proofs.Solid.{Shown, Solid}
use Rattle.words.proofs.Solid.{argument_solid}
use Rattle.writer.proofs.Hexes.{capital_digit, hex_solid, hex_length}
use Rattle.language.specs.Limits.{omit_limit}
use Rattle.language.specs.Script.{set_encode, set_stopbits, set_omit, set_lfext, process}
use Rattle.language.specs.Meaning.{marked_data, omit_says, encode_hex, encode_of, stopbits_of, is_capital, raised, raise, extension, lfext_of, meaning}
use Rattle.language.specs.Right.{is_byte, in_line}
use Rattle.language.proofs.Bytes.{byte_is_lem, bytes_are, solid_line}
use Rattle.language.proofs.Hexes.{hex_said}
use Rattle.language.proofs.Back.{choice}
use Rattle.language.proofs.Room.{Fine, name_fine, short_fine}

module _ (x : List ℕ) where
  encode_line : meaning (ascii "#f:ENCODE " ++ x) ≡ encode_of (argument (32 ∷ x))
  unfolding choice
  encode_line = refl

  omit_line_lem : meaning (ascii "#f:OMIT :" ++ x) ≡ omit_says (hex_at x 0)
  unfolding choice marked_data
  omit_line_lem = refl

  lfext_line : meaning (ascii "#f:LFEXT " ++ x) ≡ lfext_of (argument (32 ∷ x))
  unfolding choice
  lfext_line = refl

pub process_said : meaning (ascii "#PROCESS") ≡ process
unfolding choice
process_said = refl

pub process_fine : Fine 0 (ascii "#PROCESS")
unfolding in_line is_byte
process_fine = name_fine _ (omega arith) refl

-- ---- ENCODE

module _ (b : ℕ) (h : is_byte b ≡ true) where
  byte_solid : Solid (hex_text (b ∷ []))
  byte_solid = hex_solid (b ∷ []) (byte_is_lem b h, tt)

  pub encode_said : meaning (ascii "#f:ENCODE :" ++ hex_text (b ∷ [])) ≡ set_encode b
  unfolding encode_of encode_hex hex_byte_at hex_byte_of hex_second hex_text
  encode_said =
      let small : b < 256 = byte_is_lem b h in
      let hi : b / 16 < 16 = omega arith in
      let lo : b % 16 < 16 = omega arith in
      let e : b / 16 * 16 + b % 16 ≡ b = omega arith in
      encode_line (58 ∷ hex_text (b ∷ []))
      ∙ rw (argument_solid (58 ∷ hex_text (b ∷ [])) (omega arith, byte_solid))
      (rw (capital_digit (b / 16) hi, lt-ltb (b / 16) 16 hi, capital_digit (b % 16) lo, lt-ltb (b % 16) 16 lo, e))

  pub encode_fine : Fine 0 (ascii "#f:ENCODE :" ++ hex_text (b ∷ []))
  unfolding in_line is_byte
  encode_fine = short_fine (ascii "#f:ENCODE :") (hex_text (b ∷ [])) (omega (arith, hex_length (b ∷ []))) refl byte_solid

-- ---- STOPBITS

pub stopbits_said : meaning (ascii "#f:STOPBITS 2") ≡ set_stopbits true
unfolding choice argument trim_end before_end stopbits_of
stopbits_said = refl

pub stopbits_fine : Fine 0 (ascii "#f:STOPBITS 2")
unfolding in_line is_byte
stopbits_fine = name_fine _ (omega arith) refl

-- ---- OMIT: ten bytes make a line of 29, and 8 over 21 are 456 parts of 57

pub omit_said : (bs : List ℕ) → all is_byte bs ≡ true → meaning (ascii "#f:OMIT :" ++ hex_text bs) ≡ set_omit bs
unfolding omit_says
omit_said bs h = omit_line_lem (hex_text bs) ∙ rw (hex_said bs h)

pub omit_fine : (bs : List ℕ) → all is_byte bs ≡ true → length bs ≤ omit_limit → Fine 456 (ascii "#f:OMIT :" ++ hex_text bs)
unfolding in_line is_byte
omit_fine bs b h =
    let l = hex_length bs in
    record { fits = omega arith; small = omega arith; whole = solid_line (hex_text bs) (hex_solid bs (bytes_are bs b)) }

-- ---- LFEXT

-- what a capital letter or a digit is
abbrev Capital : ℕ → Type 0
Capital b = Shown b × (b < 97)

capital_range : (b : ℕ) → is_capital b ≡ true → Capital b
unfolding is_capital
capital_range b h = go (leb 48 b && leb b 57) refl h
  where
    go : (t : Bool) → (leb 48 b && leb b 57) ≡ t → (t || (leb 65 b && leb b 90)) ≡ true → Capital b
    go true e r =
        let p : 48 ≤ b = leb-true 48 b (both_left (leb 48 b) (leb b 57) e) in
        let q : b ≤ 57 = leb-true b 57 (both_right (leb 48 b) (leb b 57) e) in
        (omega arith, omega arith)
    go false e r =
        let p : 65 ≤ b = leb-true 65 b (both_left (leb 65 b) (leb b 90) r) in
        let q : b ≤ 90 = leb-true b 90 (both_right (leb 65 b) (leb b 90) r) in
        (omega arith, omega arith)

capitals_are : (l : List ℕ) → all is_capital l ≡ true → Every Capital l
capitals_are l h = every_of Capital is_capital capital_range l h

capitals_solid : (l : List ℕ) → Every Capital l → Solid l
capitals_solid [] h = tt
capitals_solid (b ∷ l) h = (h.0.0, capitals_solid l h.1)

raised_capital : (b : ℕ) → b < 97 → raised b ≡ b
unfolding raised
raised_capital b h = rw (lt-leb 97 b h)

raise_capitals : (l : List ℕ) → Every Capital l → raise l ≡ l
unfolding raise
raise_capitals [] h = refl
raise_capitals (b ∷ l) h = rw (raised_capital b h.0.1, raise_capitals l h.1)

module _ (l : List ℕ) (h : extension l ≡ true) where
  short : length l ≤ 3
  unfolding extension
  short =
      leb-true (length l) 3 (both_right (ltb 0 (length l)) (leb (length l) 3) (both_left (ltb 0 (length l) && leb (length l) 3) (all is_capital l) h))

  capitals : Every Capital l
  unfolding extension
  capitals = capitals_are l (both_right (ltb 0 (length l) && leb (length l) 3) (all is_capital l) h)

  pub lfext_said : meaning (ascii "#f:LFEXT " ++ l) ≡ set_lfext l
  unfolding lfext_of
  lfext_said = lfext_line l ∙ rw (argument_solid l (capitals_solid l capitals), raise_capitals l capitals, h)

  pub lfext_fine : Fine 0 (ascii "#f:LFEXT " ++ l)
  unfolding in_line is_byte
  lfext_fine = short_fine (ascii "#f:LFEXT ") l (omega (arith, short)) refl (capitals_solid l capitals)
