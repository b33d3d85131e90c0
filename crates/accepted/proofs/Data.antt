-- What the tests of data decide. Assumes nothing.
use Rattle.std.specs.Prelude.{Some, None}
use Prim.Native.Nat.{ℕ, ◌+◌, ◌*◌, ◌≤◌, ◌<◌}
use mathlib.Core.Path.{◌≡◌, refl, sym, ◌∙◌}
use mathlib.Core.Bool.{Bool, true, false, ◌&&◌}
use mathlib.Core.List.{List}
use native.Mathlib.Omega.{arith}
use lib.ListN.{length}
use borrow.Author.Tests.{eq-eqb, ne_eqb, le-leb, lt-leb}
use Rattle.std.specs.Bool.{then_some}
use Rattle.reader.specs.Bytes.{all}
use Rattle.reader.proofs.Tests.{and_false}
use Rattle.language.specs.declared.Span.{Span}
use Rattle.language.specs.Listing.{last_in_one}
use Rattle.language.specs.Right.{is_byte, in_line, data_right}
use Rattle.language.proofs.LastDigit.{not_one}
use Rattle.accepted.specs.Inside.Cells.{follows}
use Rattle.accepted.specs.Inside.EndsFit.{reaches}

module _ (room : ℕ) (bs : List ℕ) (bytes : all is_byte bs ≡ true) where
  pub data_long : room < length bs → false ≡ data_right room bs
  unfolding data_right
  data_long h =
      let d : room < length bs * 2 = omega arith in
      simp (bytes, lt-leb (length bs * 2) room d, not_one room bs (omega arith), lt-leb (length bs) room h)

  pub data_hex : length bs * 2 ≤ room → true ≡ data_right room bs
  unfolding data_right
  data_hex h = simp (bytes, le-leb (length bs * 2) room h)

  module _ {t : Bool} (told : t ≡ last_in_one room bs) (k : room < length bs * 2) where
    pub data_short : t ≡ true → true ≡ data_right room bs
    unfolding data_right
    data_short e = simp (bytes, lt-leb (length bs * 2) room k, sym told ∙ e)

    pub data_text_lem : t ≡ false → length bs ≤ room → all in_line bs ≡ data_right room bs
    unfolding data_right
    data_text_lem e h = simp (bytes, lt-leb (length bs * 2) room k, sym told ∙ e, le-leb (length bs) room h)

-- ---- data that begin at a place, and are right

then_is : (t : Bool) (x : ℕ) → then_some t x ≡ reaches t x
then_is true x = refl
then_is false x = refl

module _ (s : Span) (at : ℕ) (right : Bool) where
  pub elsewhere : (s.from ≡ at → ⊥) → {t : Bool} (x : ℕ) → t ≡ false → then_some t x ≡ reaches (follows at s && right) (at + s.count)
  unfolding follows
  elsewhere h x e = rw (e, ne_eqb s.from at h)

  pub here : s.from ≡ at → {t : Bool} {f n : ℕ} → f ≡ s.from → n ≡ s.count → t ≡ right → then_some t (f + n) ≡ reaches (follows at s && right) (at + s.count)
  unfolding follows
  here h {t} {f} {n} from count e = let k : f + n ≡ at + s.count = omega arith in rw (eq-eqb s.from at h, e, k) (then_is right (at + s.count))
