-- The state of every loop that writes: what was to be written into the slice as it came is what is still to be written into it
-- as it stands. Assumes nothing.
use Prim.Native.Nat.{ℕ, ◌+◌, ◌≤◌, ◌<◌}
use mathlib.Core.Path.{◌≡◌, refl, sym, ap, ◌∙◌}
use mathlib.Core.List.{List, [], ◌∷◌}
use native.Mathlib.Numerals.{add-one}
use native.Mathlib.Omega.{arith}
use lib.ListN.{length, set, length-set}
use lib.Seq.{sets}

pub record Placing (d₀ : List ℕ) (at : ℕ) (bs d : List ℕ) (place : ℕ) (rest : List ℕ) : Type 0 where
  pub long : length d ≡ length d₀
  pub ends : place + length rest ≡ at + length bs
  pub room : at + length bs ≤ length d₀
  pub written : sets d₀ at bs ≡ sets d place rest

pub begun : {d : List ℕ} {at : ℕ} {bs : List ℕ} → at + length bs ≤ length d → Placing d at bs d at bs
begun h = record { long = refl; ends = refl; room = h; written = refl }

-- the bytes left, under another name
pub renamed : {d₀ : List ℕ} {at : ℕ} {bs d : List ℕ} {place : ℕ} {rest rest' : List ℕ} → rest ≡ rest'
    → Placing d₀ at bs d place rest → Placing d₀ at bs d place rest'
renamed e w = rw e at w

module _ {d₀ : List ℕ} {at : ℕ} {bs d : List ℕ} {place b : ℕ} {rest : List ℕ} (w : Placing d₀ at bs d place (b ∷ rest)) where
  pub fits : place < length d
  fits = omega (arith, w.long, w.ends, w.room)

  pub stored : Placing d₀ at bs (set d place b) (place + 1) rest
  stored = record {
    long = length-set d place b ∙ w.long;
    ends = omega (arith, w.ends);
    room = w.room;
    written = w.written ∙ ap (λ (p : ℕ). sets (set d place b) p rest) (sym (add-one place));
  }

module _ {d₀ : List ℕ} {at : ℕ} {bs d : List ℕ} {place : ℕ} (w : Placing d₀ at bs d place []) where
  pub placed : d ≡ sets d₀ at bs
  placed = sym w.written
