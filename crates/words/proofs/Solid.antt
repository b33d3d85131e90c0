-- Words of bytes above the space are read as they stand. Assumes nothing.
use Prim.Native.Nat.{ℕ, ◌<◌}
use mathlib.Core.Path.{◌≡◌, refl}
use mathlib.Core.List.{List, [], ◌∷◌}
use Rattle.reader.specs.Bytes.{is_blank}
use Rattle.reader.proofs.Digits.{no_blank}
use Rattle.reader.proofs.Solid.{Solid}
use Rattle.words.specs.Words.{skip, before_end, trim_end, argument}

pub skip_solid : (l : List ℕ) → Solid l → skip l ≡ l
unfolding skip
skip_solid [] h = refl
skip_solid (b ∷ l) h = rw (no_blank b h.0.low)

before_end_lem : (b : ℕ) (l : List ℕ) → 32 < b → before_end b l ≡ b ∷ l
unfolding before_end
before_end_lem b [] h = rw (no_blank b h)
before_end_lem b (c ∷ l) h = refl

pub trim_solid : (l : List ℕ) → Solid l → trim_end l ≡ l
unfolding trim_end
trim_solid [] h = refl
trim_solid (b ∷ l) h = rw (trim_solid l h.1) (before_end_lem b l h.0.low)

-- an argument after one space is read as it stands
pub argument_solid : (l : List ℕ) → Solid l → argument (32 ∷ l) ≡ l
unfolding argument is_blank skip
argument_solid l h = rw (skip_solid l h) (trim_solid l h)
