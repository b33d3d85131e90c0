-- The parts of a statement's line. Assumes nothing.
use Prim.Native.Nat.{ℕ, ◌+◌, ◌-◌, ◌*◌, ◌/◌, ◌%◌, ◌≤◌, ◌<◌}
use mathlib.Core.Path.{◌≡◌, refl, sym, ◌∙◌}
use mathlib.Core.Bool.{Bool, true, false, not}
use mathlib.Core.List.{List, [], ◌∷◌, ◌++◌}
use native.Mathlib.Omega.{arith}
use lib.ListN.{length, length-take}
use borrow.Author.Tests.{leb-true, le-leb, lt-leb, eq-eqb, ne_eqb}
use Rattle.reader.specs.Ascii.{ascii}
use Rattle.reader.specs.Bytes.{all}
use Rattle.writer.specs.Hex.{capital, hex_text}
use Rattle.writer.specs.Put.{decimal}
use Rattle.reader.proofs.Tests.{both_right}
use Rattle.language.specs.Listing.{is_plain, in_hex, front_of, last_of, last_in_one, short_hex, data_text, count_text, time_text, on_text, signal_text, log_text}
use Rattle.language.proofs.LastDigit.{one_over, last_small}
use Rattle.lister.specs.Inside.Printed.{FitsListing}
use Rattle.lister.proofs.Printing.{room_is, first_room, then_room}

-- ---- data

module _ (room : ℕ) (bs : List ℕ) {o : Bool} (one : o ≡ last_in_one room bs) where
  pub short_data : o ≡ true → (58 ∷ []) ++ short_hex bs ≡ data_text room bs
  unfolding data_text
  short_data k = rw (sym one ∙ k)

  -- there is a last byte, small, and those before it have room in hex
  pub short_some : o ≡ true → 0 < length bs
  short_some k = omega (arith, one_over room bs (sym one ∙ k))

  pub short_few : room ≤ 126 → o ≡ true → length bs ≤ 64
  short_few h k = omega (arith, one_over room bs (sym one ∙ k))

  pub short_last : o ≡ true → last_of bs < 16
  short_last k = last_small room bs (sym one ∙ k)

  module _ (k : o ≡ false) {t : Bool} (told : t ≡ in_hex room bs) where
    pub hex_data_lem : t ≡ true → (58 ∷ []) ++ hex_text bs ≡ data_text room bs
    unfolding data_text
    hex_data_lem e = rw (sym one ∙ k, sym told ∙ e)

    pub text_data : t ≡ false → (47 ∷ []) ++ bs ≡ data_text room bs
    unfolding data_text
    text_data e = rw (sym one ∙ k, sym told ∙ e)

pub hex_few : (room : ℕ) (bs : List ℕ) {t : Bool} → t ≡ in_hex room bs → room ≤ 126 → t ≡ true → length bs ≤ 63
unfolding in_hex
hex_few room bs told h e = omega (arith, leb-true (length bs * 2) room (both_right (not (all is_plain bs)) _ (sym told ∙ e)))

-- the bytes before the last, then the digit of the last
module _ (bs : List ℕ) where
  pub front_few : length bs ≤ 64 → length (front_of bs) ≤ 63
  front_few h = omega (arith, length-take (length bs - 1) bs)

  module _ (small : last_of bs < 16) where
    pub short_parts : {d : ℕ} → d ≡ capital (last_of bs % 16) → hex_text (front_of bs) ++ (d ∷ []) ≡ short_hex bs
    unfolding short_hex
    short_parts is = let e : last_of bs % 16 ≡ last_of bs = omega arith in rw (is, e)

    module _ {at : ℕ} (room : FitsListing at (short_hex bs)) where
      both_room : FitsListing at (hex_text (front_of bs) ++ (capital (last_of bs % 16) ∷ []))
      both_room = room_is (short_parts refl) room

      pub front_room : FitsListing at (hex_text (front_of bs))
      front_room = first_room (hex_text (front_of bs)) (capital (last_of bs % 16) ∷ []) both_room

      pub digit_room : {r : ℕ} → r ≡ at + length (hex_text (front_of bs)) → FitsListing r (capital (last_of bs % 16) ∷ [])
      digit_room e = then_room (hex_text (front_of bs)) (capital (last_of bs % 16) ∷ []) both_room e

module _ (bs : List ℕ) where
  pub log_empty : length bs ≡ 0 → ascii "#LOG" ≡ log_text bs
  unfolding log_text
  log_empty = go bs
    where
      go : (bs : List ℕ) → length bs ≡ 0 → ascii "#LOG" ≡ log_text bs
      go [] h = refl
      go (b ∷ l) h = absurd (omega arith)

  pub log_full : (length bs ≡ 0 → ⊥) → ascii "#LOG " ++ bs ≡ log_text bs
  unfolding log_text
  log_full = go bs
    where
      go : (bs : List ℕ) → (length bs ≡ 0 → ⊥) → ascii "#LOG " ++ bs ≡ log_text bs
      go [] h = absurd (h refl)
      go (b ∷ l) h = refl

-- ---- numbers and levels

module _ (n : ℕ) where
  pub for_ever : n ≡ 0 → ascii "EVER" ≡ count_text n
  unfolding count_text
  for_ever e = rw (eq-eqb n 0 e)

  pub so_often : {m : ℕ} → m ≡ n → (n ≡ 0 → ⊥) → decimal m ≡ count_text n
  unfolding count_text
  so_often is e = rw (ne_eqb n 0 e, is)

  pub in_ms : n ≤ 60000 → decimal n ++ ascii "MS" ≡ time_text n
  unfolding time_text
  in_ms h = rw (le-leb n 60000 h)

  pub in_s : 60000 < n → decimal (n / 1000) ++ ascii "S" ≡ time_text n
  unfolding time_text
  in_s h = rw (lt-leb n 60000 h)

  pub is_cts : n ≡ 0 → ascii "CTS" ≡ signal_text n
  unfolding signal_text
  is_cts e = rw (eq-eqb n 0 e)

  pub is_ex : (n ≡ 0 → ⊥) → 69 ∷ 88 ∷ (48 + n) ∷ [] ≡ signal_text n
  unfolding signal_text
  is_ex e = rw (ne_eqb n 0 e)

pub level_on : {on : Bool} → on ≡ true → ascii "ON" ≡ on_text on
unfolding on_text
level_on e = rw e

pub level_off : {on : Bool} → on ≡ false → ascii "OFF" ≡ on_text on
unfolding on_text
level_off e = rw e
