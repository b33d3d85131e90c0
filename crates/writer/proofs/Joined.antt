-- What a lent slice holds after bytes were put into it. Assumes nothing.
use Prim.Native.Nat.{ℕ, suc, ◌+◌, ◌≤◌}
use mathlib.Core.Path.{◌≡◌, refl}
use mathlib.Core.List.{List, [], ◌∷◌, ◌++◌, append_assoc}
use native.Mathlib.Omega.{arith}
use lib.Dec.{leb}
use lib.ListN.{length, take, drop, set, length-append}
use lib.Seq.{sets, sets-eq, length-sets, take_at, drop_at, length-take-le}
use borrow.Author.Tests.{le-leb}
use Rattle.writer.specs.Put.{put_into}
use Rattle.reader.proofs.Tests.{by_cases}

pub put_length : (bs d : List ℕ) (at : ℕ) → length (put_into bs d at) ≡ length d
unfolding put_into
put_length bs d at = by_cases (λ (l : List ℕ). length l ≡ length d) (leb (at + length bs) (length d)) (sets d at bs) d (λ e. length-sets d at bs) (λ e. refl)

module _ (bs d : List ℕ) (at : ℕ) (room : at + length bs ≤ length d) where
  pub put_parts : put_into bs d at ≡ take at d ++ (bs ++ drop (at + length bs) d)
  unfolding put_into
  put_parts = rw (le-leb _ _ room, sets-eq bs d at room, append_assoc)

  -- what stands before the place is kept, and what stands from it on begins with the bytes
  pub put_before : take at (put_into bs d at) ≡ take at d
  put_before = rw put_parts (take_at (take at d) _ at (length-take-le at d (omega arith)))

  pub put_there : drop at (put_into bs d at) ≡ bs ++ drop (at + length bs) d
  put_there = rw put_parts (drop_at (take at d) _ at (length-take-le at d (omega arith)))

pub sets_append : (bs cs d : List ℕ) (at : ℕ) → sets (sets d at bs) (at + length bs) cs ≡ sets d at (bs ++ cs)
sets_append [] cs d at = let e : at + 0 ≡ at = omega arith in rw e
sets_append (b ∷ bs) cs d at =
    let e : at + suc (length bs) ≡ suc at + length bs = omega arith in
    rw e (sets_append bs cs (set d at b) (suc at))

-- bytes put one after the other are put together
pub put_joined : (bs cs d : List ℕ) (at : ℕ) → at + length (bs ++ cs) ≤ length d → put_into cs (put_into bs d at) (at + length bs) ≡ put_into (bs ++ cs) d at
unfolding put_into
put_joined bs cs d at h =
    let l = length-append bs cs in
    let a : at + length bs ≤ length d = omega arith in
    let b : at + length bs + length cs ≤ length (sets d at bs) = rw (length-sets d at bs) (omega arith) in
    rw (le-leb _ _ a, le-leb _ _ b, le-leb _ _ h) (sets_append bs cs d at)
