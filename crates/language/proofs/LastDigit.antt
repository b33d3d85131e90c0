-- The one case in which a line has room for the last byte of its data in one digit alone: what the code tests, that such a line is
-- read back, and No. 5 in its own words. Assumes nothing.
use Prim.Native.Nat.{ℕ, suc, ◌+◌, ◌-◌, ◌*◌, ◌%◌, ◌<◌, ◌≤◌}
use mathlib.Core.Path.{◌≡◌, refl, sym, ap, ◌∙◌}
use mathlib.Core.Bool.{Bool, true, false, ◌&&◌, or-false}
use mathlib.Core.List.{List, [], ◌∷◌, ◌++◌}
use native.Mathlib.Omega.{arith}
use lib.Dec.{ltb, eqb}
use lib.ListN.{length, length-append}
use lib.Seq.{take-suc, take-length, length-take-le}
use borrow.Author.Tests.{ltb-true, lt-ltb, eqb-true, eqb-false, eq-eqb, ne_eqb, le-leb, lt-leb}
use Rattle.reader.specs.Bytes.{all, same, digit_of}
use Rattle.reader.proofs.Tests.{both_left, all_take, Every, every_append}
use Rattle.reader.proofs.Solid.{Solid, solid_append}
use Rattle.hex_data.specs.Hex.{good, hex_at}
use Rattle.hex_data.proofs.Runs.{cut, run_data}
use Rattle.writer.specs.Hex.{capital, hex_text}
use Rattle.writer.proofs.Hexes.{capital_digit, capital_solid, hex_solid, hex_length}
use Rattle.language.specs.Limits.{line_limit, wait_room}
use Rattle.language.specs.Script.{wait_data}
use Rattle.language.specs.Listing.{front_of, last_of, last_in_one, short_hex, data_text, line_for}
use Rattle.language.specs.Right.{is_byte, in_line, data_right, right}
use Rattle.language.proofs.Bytes.{bytes_are}
use Rattle.language.proofs.Hexes.{is_digit, hex_digits, cut_hex}

-- ---- whether it is the case

module _ (room : ℕ) (bs : List ℕ) where
  pub by_the_last : length bs * 2 ≡ suc room → last_in_one room bs ≡ ltb (last_of bs) 16
  unfolding last_in_one
  by_the_last e = rw (eq-eqb (length bs * 2) (suc room) e)

  pub not_one : (length bs * 2 ≡ suc room → ⊥) → last_in_one room bs ≡ false
  unfolding last_in_one
  not_one n = rw (ne_eqb (length bs * 2) (suc room) n)

  pub in_one : length bs * 2 ≡ suc room → last_of bs < 16 → last_in_one room bs ≡ true
  in_one e h = by_the_last e ∙ lt-ltb (last_of bs) 16 h

  -- as the code tests it: the bytes before the last in two digits each, and one digit more, fill the room
  pub no_last : length bs < 1 → false ≡ last_in_one room bs
  no_last e = sym (not_one (omega arith))

  module _ (some : 1 ≤ length bs) where
    before : length (front_of bs) ≡ length bs - 1
    before = length-take-le (length bs - 1) bs (omega arith)

    pub not_full : (length (front_of bs) * 2 + 1 ≡ room → ⊥) → eqb (length (front_of bs) * 2 + 1) room ≡ last_in_one room bs
    not_full h = ne_eqb _ _ h ∙ sym (not_one (λ e. h (omega (arith, before))))

    pub full : length (front_of bs) * 2 + 1 ≡ room → ltb (last_of bs) 16 ≡ last_in_one room bs
    full h = sym (by_the_last (omega (arith, before)))

-- ---- what holds in the case: its digits fill the room, and are read back

module _ (room : ℕ) (bs : List ℕ) (one : last_in_one room bs ≡ true) where
  pub one_over : length bs * 2 ≡ suc room
  unfolding last_in_one
  one_over = eqb-true (length bs * 2) (suc room) (both_left (eqb (length bs * 2) (suc room)) (ltb (last_of bs) 16) one)

  pub last_small : last_of bs < 16
  last_small = ltb-true (last_of bs) 16 (sym (by_the_last room bs one_over) ∙ one)

  in_parts : front_of bs ++ last_of bs ∷ [] ≡ bs
  in_parts =
      let some : length bs - 1 < length bs = omega (arith, one_over) in
      let all_of : suc (length bs - 1) ≡ length bs = omega (arith, one_over) in
      sym (take-suc bs (length bs - 1) 0 some) ∙ rw all_of (take-length bs)

  pub short_length : length (short_hex bs) ≡ room
  unfolding short_hex
  short_length =
      let n : length (front_of bs) ≡ length bs - 1 = length-take-le (length bs - 1) bs (omega arith) in
      omega (arith, length-append (hex_text (front_of bs)) (capital (last_of bs) ∷ []), hex_length (front_of bs), n, one_over)

  module _ (bytes : all is_byte bs ≡ true) where
    front_bytes : Every (λ b. b < 256) (front_of bs)
    front_bytes = bytes_are (front_of bs) (all_take is_byte (length bs - 1) bs bytes)

    pub short_solid : Solid (short_hex bs)
    unfolding short_hex
    short_solid = solid_append (hex_text (front_of bs)) _ (hex_solid _ front_bytes) (capital_solid (last_of bs) last_small, tt)

    pub short_said : hex_at (short_hex bs) 0 ≡ good bs
    unfolding short_hex cut
    short_said =
        let last : List ℕ = capital (last_of bs) ∷ [] in
        run_data (hex_text (front_of bs) ++ last)
        (every_append (λ b. digit_of b < 16) (hex_text (front_of bs)) last (hex_digits (front_of bs) front_bytes) (is_digit (last_of bs) last_small, tt))
        ∙ ap good (cut_hex (front_of bs) last front_bytes ∙ rw (capital_digit (last_of bs) last_small) in_parts)

-- ---- the request's words

-- "a WAIT DATA line can now hold 58 bytes, the last below 10h"
pub one_case : (bs : List ℕ) → last_in_one wait_room bs ≡ (eqb (length bs) 58 && ltb (last_of bs) 16)
one_case bs = go (eqb (length bs) 58) refl
  where
    go : (t : Bool) → eqb (length bs) 58 ≡ t → last_in_one wait_room bs ≡ (t && ltb (last_of bs) 16)
    go true e = let n : length bs ≡ 58 = eqb-true (length bs) 58 e in by_the_last wait_room bs (omega arith)
    go false e = let n : length bs ≡ 58 → ⊥ = eqb-false (length bs) 58 e in not_one wait_room bs (omega arith)

-- a data line and OMIT have no such case: what they have room for is even
pub no_other_case : (room : ℕ) (bs : List ℕ) → room % 2 ≡ 0 → last_in_one room bs ≡ false
no_other_case room bs e = not_one room bs (omega arith)

-- "so that the line fits 127 characters": it has as many
pub line_full : (bs : List ℕ) → last_in_one wait_room bs ≡ true → length (line_for (wait_data bs)) ≡ line_limit
unfolding line_for data_text
line_full bs e = rw e (omega (arith, short_length wait_room bs e))

-- 58 bytes with an LF among them are right in WAIT DATA exactly if the last is below 10h
pub with_lf : (bs : List ℕ) → all is_byte bs ≡ true → all in_line bs ≡ false → length bs ≡ 58 → right (wait_data bs) ≡ ltb (last_of bs) 16
unfolding right data_right same
with_lf [] bytes lf n = absurd (omega arith)
with_lf (b ∷ bs) bytes lf n =
    let l : ℕ = length (b ∷ bs) in
    rw (bytes, lt-leb (l * 2) wait_room (omega arith), by_the_last wait_room (b ∷ bs) (omega arith), le-leb l wait_room (omega arith), lf)
    (or-false (ltb (last_of (b ∷ bs)) 16))
