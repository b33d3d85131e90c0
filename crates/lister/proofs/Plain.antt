-- Which bytes are plain, and which data stand in hex. Assumes nothing.
use Rattle.std.specs.List.{list_all}
use Prim.Native.Nat.{ℕ, ◌*◌}
use mathlib.Core.Path.{◌≡◌, refl, sym, ap, ◌∙◌}
use mathlib.Core.Bool.{Bool, true, false, ◌&&◌}
use mathlib.Core.List.{List, [], ◌∷◌}
use lib.Dec.{leb}
use lib.ListN.{length}
use Rattle.reader.specs.Bytes.{all}
use Rattle.language.specs.Listing.{is_plain, in_hex}

-- every byte is plain, in the words of std
pub plain_all : (bs : List ℕ) → list_all (λ (b : ℕ). leb 32 b && leb b 126) bs ≡ all is_plain bs
unfolding is_plain
plain_all [] = refl
plain_all (b ∷ bs) = ap (λ (t : Bool). (leb 32 b && leb b 126) && t) (plain_all bs)

module _ (room : ℕ) (bs : List ℕ) {t : Bool} (told : t ≡ all is_plain bs) where
  pub plain_text : t ≡ true → false ≡ in_hex room bs
  unfolding in_hex
  plain_text e = rw (sym told ∙ e)

  pub other_text : t ≡ false → leb (length bs * 2) room ≡ in_hex room bs
  unfolding in_hex
  other_text e = rw (sym told ∙ e)
