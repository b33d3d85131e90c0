-- What is written one after the other is written together. Assumes nothing.
use Prim.Native.Nat.{ℕ, ◌+◌, ◌<◌}
use mathlib.Core.Path.{◌≡◌, refl, ap, ◌∙◌}
use mathlib.Core.Bool.{Bool, true, false, cond}
use mathlib.Core.List.{List, [], ◌∷◌, ◌++◌}
use native.Mathlib.Numerals.{add-one}
use native.Mathlib.Omega.{arith}
use lib.ListN.{length, drop, get_or, set, length-append}
use lib.Seq.{drop-cons, sets, length-sets}
use Rattle.writer.proofs.Joined.{sets_append}
use Rattle.lister.specs.Inside.Printed.{FitsListing, Printed}

-- nothing written
pub printed_none : {d : List ℕ} {at : ℕ} → Printed [] d at at d
printed_none = record { place = omega arith; written = refl }

pub printed_is : {bs cs d : List ℕ} {at r : ℕ} {e : List ℕ} → bs ≡ cs → Printed bs d at r e → Printed cs d at r e
printed_is h p = rw h at p

pub printed_more : {a b d e f : List ℕ} {at r q : ℕ} → Printed a d at r e → Printed b e r q f → Printed (a ++ b) d at q f
printed_more {a} {b} {d} {e} {f} {at} {r} {q} x y =
    record {
      place = omega (arith, length-append a b, x.place, y.place);
      written = y.written ∙ (rw (x.written, x.place) (sets_append a b d at));
    }

pub room_is : {bs cs : List ℕ} {at : ℕ} → bs ≡ cs → FitsListing at cs → FitsListing at bs
room_is e h = rw e h

-- a part that is there, and one that is not
pub cond_on : {t : Bool} (a : List ℕ) → t ≡ true → a ≡ cond t a []
cond_on a e = rw e

pub cond_off : {t : Bool} (a : List ℕ) → t ≡ false → [] ≡ cond t a []
cond_off a e = rw e

-- the room for what is written first, and then for the rest
module _ (a b : List ℕ) {at : ℕ} (room : FitsListing at (a ++ b)) where
  pub first_room : FitsListing at a
  first_room = record { fits = omega (arith, room.fits, length-append a b) }

  pub then_room : {r : ℕ} → r ≡ at + length a → FitsListing r b
  then_room e = record { fits = omega (arith, room.fits, length-append a b) }

-- the same for three parts
module _ (a b c : List ℕ) {at : ℕ} (room : FitsListing at ((a ++ b) ++ c)) where
  pub room_one : FitsListing at a
  room_one = first_room a b (first_room (a ++ b) c room)

  pub room_two : {p : ℕ} → p ≡ at + length a → FitsListing p b
  room_two e = then_room a b (first_room (a ++ b) c room) e

  pub room_three : {p q : ℕ} → p ≡ at + length a → q ≡ p + length b → FitsListing q c
  room_three {p} {q} e h = let k : q ≡ at + length (a ++ b) = omega (arith, length-append a b) in then_room (a ++ b) c room k

-- ---- a loop that writes: what was to be written into the slice as it came is what is still to be written into it as it stands

pub record Printing (bs d₀ : List ℕ) (at : ℕ) (d : List ℕ) (place : ℕ) (rest : List ℕ) : Type 0 where
  pub long : length d ≡ length d₀
  pub ends : place + length rest ≡ at + length bs
  pub all : sets d place rest ≡ sets d₀ at bs

pub begun : {bs d : List ℕ} {at : ℕ} → Printing bs d at d at bs
begun = record { long = refl; ends = refl; all = refl }

module _ {bs d₀ d : List ℕ} {at place : ℕ} where
  pub left_is : {rest more : List ℕ} → rest ≡ more → Printing bs d₀ at d place rest → Printing bs d₀ at d place more
  left_is e w = rw e at w

  -- all is written
  pub printed : {rest : List ℕ} → rest ≡ [] → Printing bs d₀ at d place rest → Printed bs d₀ at place d
  printed {rest} e w =
      let z : length rest ≡ 0 = ap length e in
      record { place = omega (arith, w.ends); written = rw e at w.all }

  module _ (a rest : List ℕ) (w : Printing bs d₀ at d place (a ++ rest)) where
    -- there is room for the next
    pub next_room : FitsListing at bs → FitsListing place a
    next_room h = record { fits = omega (arith, h.fits, w.ends, length-append a rest) }

    -- and it is written
    pub went_on : {r : ℕ} {e : List ℕ} → Printed a d place r e → Printing bs d₀ at e r rest
    went_on {r} {e} p =
        record {
          long = rw p.written (length-sets d place a ∙ w.long);
          ends = omega (arith, w.ends, p.place, length-append a rest);
          all = rw (p.written, p.place) (sets_append a rest d place ∙ w.all);
        }

-- a byte stored
pub stored : {b : ℕ} {d e : List ℕ} {at : ℕ} → e ≡ set d at b → Printed (b ∷ []) d at (at + 1) e
stored h = record { place = refl; written = h }

-- a loop that writes bytes one by one
module _ {bs d₀ d : List ℕ} {at place : ℕ} (s : List ℕ) (i : ℕ) (inside : i < length s) (w : Printing bs d₀ at d place (drop i s)) where
  byte_next : Printing bs d₀ at d place ((get_or s i 0 ∷ []) ++ drop (i + 1) s)
  byte_next = left_is (rw (add-one i) (drop-cons s i 0 inside)) w

  pub byte_room : FitsListing at bs → FitsListing place (get_or s i 0 ∷ [])
  byte_room h = next_room (get_or s i 0 ∷ []) (drop (i + 1) s) byte_next h

  pub byte_stored : {e : List ℕ} → e ≡ set d place (get_or s i 0) → Printing bs d₀ at e (place + 1) (drop (i + 1) s)
  byte_stored h = went_on (get_or s i 0 ∷ []) (drop (i + 1) s) byte_next (stored h)
