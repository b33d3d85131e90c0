-- What a writer answers where its loop ends, bytes that are copied, and the next byte of a loop in hex. Assumes nothing.
use Prim.Native.Nat.{ℕ, ◌+◌, ◌-◌, ◌/◌, ◌%◌, ◌≤◌, ◌<◌}
use Rattle.std.specs.Prelude.{Some, None}
use mathlib.Core.Path.{◌≡◌, sym, ap, ◌∙◌}
use mathlib.Core.List.{List, [], ◌∷◌}
use native.Mathlib.Numerals.{add-one}
use native.Mathlib.Omega.{arith}
use lib.ListN.{length, drop, get_or, set}
use lib.Seq.{drop-cons, drop-drop}
use borrow.Rule.Slice.PartMut.{put_mid}
use borrow.Author.Tests.{le-leb, lt-leb}
use Rattle.reader.proofs.Placing.{Placing, renamed, stored, placed}
use Rattle.writer.specs.Hex.{capital, hex_text}
use Rattle.writer.specs.Put.{put_answer, put_into}
use Rattle.writer.proofs.Joined.{put_parts}

module _ {d₀ : List ℕ} {at : ℕ} {bs d : List ℕ} {place : ℕ} (w : Placing d₀ at bs d place []) where
  pub done : (Some place ≡ put_answer bs d₀ at) × (d ≡ put_into bs d₀ at)
  unfolding put_answer put_into
  done =
      let h : at + length bs ≤ length d₀ = w.room in
      let e : place ≡ at + length bs = omega (arith, w.ends) in
      (ap Some e ∙ simp (le-leb _ _ h), placed w ∙ simp (le-leb _ _ h))

pub no_room : (bs d : List ℕ) (at : ℕ) → length d < at + length bs → (None ≡ put_answer bs d at) × (d ≡ put_into bs d at)
unfolding put_answer put_into
no_room bs d at h = (simp (lt-leb _ _ h), simp (lt-leb _ _ h))

-- bytes copied into the part of the slice from the place on
pub copied : (bs d new : List ℕ) (at : ℕ) → at + length bs ≤ length d → new ≡ bs
    → (Some (at + length bs) ≡ put_answer bs d at) × (put_mid at (at + length bs - at) d new ≡ put_into bs d at)
unfolding put_answer
copied bs d new at h e =
    let k : at + length bs - at ≡ length bs = omega arith in
    (simp (le-leb _ _ h), rw (k, e, drop-drop (length bs) at d) (sym (put_parts bs d at h)))

-- ---- bytes in hex: what is left at `i`

module _ {d₀ : List ℕ} {at : ℕ} {bs d : List ℕ} {place : ℕ} (s : List ℕ) (i : ℕ) (inside : i < length s) where
  -- `x` and `y` are the digits that the code has found
  pub two_stored : {x y : ℕ} → get_or s i 0 < 256 → x ≡ capital (get_or s i 0 / 16 % 16) → y ≡ capital (get_or s i 0 % 16) → Placing d₀ at bs d place (hex_text (drop i s))
      → Placing d₀ at bs (set (set d place x) (place + 1) y) (place + 2) (hex_text (drop (i + 1) s))
  unfolding hex_text
  two_stored {x} {y} byte p q w =
      let e : place + 1 + 1 ≡ place + 2 = omega arith in
      let high : get_or s i 0 / 16 % 16 ≡ get_or s i 0 / 16 = omega arith in
      let text : hex_text (drop i s) ≡ x ∷ y ∷ hex_text (drop (i + 1) s) = rw (add-one i, drop-cons s i 0, p, q, high) in
      rw e at (stored (stored (renamed text w)))
