-- Which bytes a line holds, and which LOG text. Assumes nothing.
use Rattle.std.specs.List.{list_any}
use Prim.Native.Nat.{ℕ, suc, ◌≤◌, ◌<◌}
use mathlib.Core.Path.{◌≡◌, refl, sym, ◌∙◌}
use mathlib.Core.Bool.{Bool, true, false, not, ◌&&◌, ◌||◌}
use mathlib.Core.List.{List, [], ◌∷◌}
use lib.ListN.{length, get_or}
use borrow.Author.Tests.{lt-ltb, le-leb, lt-leb}
use lib.Dec.{eqb}
use Rattle.reader.specs.Bytes.{all}
use Rattle.language.specs.Limits.{log_room}
use Rattle.language.specs.Meaning.{signs}
use Rattle.language.specs.Right.{is_byte, in_line, log_right}

-- a line holds bytes of which none is an LF
pub no_lf : (text : List ℕ) → ((i : ℕ) → get_or text i 0 < 256) → not (list_any (λ (y : ℕ). eqb y 10) text) ≡ all in_line text
unfolding in_line is_byte
no_lf [] h = refl
no_lf (b ∷ l) h = rw (lt-ltb b 256 (h 0)) (go (eqb b 10) (no_lf l (λ i. h (suc i))))
  where
    go : (t : Bool) → not (list_any (λ (y : ℕ). eqb y 10) l) ≡ all in_line l → not (t || list_any (λ (y : ℕ). eqb y 10) l) ≡ (not t && all in_line l)
    go true e = refl
    go false e = e

module _ (text : List ℕ) where
  pub log_long : log_room < length text → false ≡ log_right text
  unfolding log_right
  log_long h = rw (lt-leb (length text) log_room h)

  module _ {t : Bool} (h : length text ≤ log_room) (told : t ≡ signs text false) where
    pub log_unsigned : t ≡ false → false ≡ log_right text
    unfolding log_right
    log_unsigned e = rw (le-leb (length text) log_room h, sym told ∙ e)

    pub log_signed : t ≡ true → {r : Bool} → r ≡ all in_line text → r ≡ log_right text
    unfolding log_right
    log_signed e k = k ∙ rw (le-leb (length text) log_room h, sym told ∙ e)
