-- NO. 5 IN ITS OWN WORDS: a run of digits, between separators or at the end, is cut in twos from its front, and an odd last digit is
-- a byte. Assumes nothing.
use Prim.Native.Nat.{ℕ, ◌+◌, ◌*◌, ◌<◌}
use mathlib.Core.Path.{◌≡◌, refl}
use mathlib.Core.Bool.{Bool, true, false, cond}
use mathlib.Core.List.{List, [], ◌∷◌, ◌++◌}
use native.Mathlib.Omega.{arith}
use lib.Dec.{eqb}
use lib.ListN.{length}
use borrow.Author.Tests.{lt-ltb, eqb-true}
use Rattle.reader.specs.Bytes.{digit_of, is_blank}
use Rattle.reader.proofs.Tests.{Every}
use Rattle.hex_data.specs.Hex.{Said, good, step_of, byte_before, hex_go, hex_at}
use Rattle.hex_data.specs.Hex.{Skip, First, Whole}

-- a run
abbrev pub Digits : List ℕ → Type 0
Digits ds = Every (λ b. digit_of b < 16) ds

-- "A longer run is cut in twos and an odd last digit is a byte."
unfoldable pub cut : List ℕ → List ℕ
cut [] = []
cut (a ∷ []) = digit_of a ∷ []
cut (a ∷ b ∷ ds) = (digit_of a * 16 + digit_of b) ∷ cut ds

-- bytes in front of what the rest says
unfoldable pub bytes_before : List ℕ → Said → Said
bytes_before [] x = x
bytes_before (b ∷ bs) x = byte_before b (bytes_before bs x)

-- ---- what a digit and a separator do

pub first : (a : ℕ) → digit_of a < 16 → step_of 16 a ≡ First (digit_of a)
unfolding step_of
first a h = rw (lt-ltb (digit_of a) 16 h)

pub second : (half a : ℕ) → half < 16 → digit_of a < 16 → step_of half a ≡ Whole (half * 16 + digit_of a)
unfolding step_of
second half a k h = rw (lt-ltb (digit_of a) 16 h, lt-ltb half 16 k)

-- of a space and of a tab it computes
blank_is : (P : ℕ → Type 0) (b : ℕ) → is_blank b ≡ true → P 32 → P 9 → P b
unfolding is_blank
blank_is P b h p q = go (eqb b 32) refl h
  where
    go : (t : Bool) → eqb b 32 ≡ t → cond t true (eqb b 9) ≡ true → P b
    go true e r = rw (eqb-true b 32 e) p
    go false e r = rw (eqb-true b 9 r) q

pub parts : (b : ℕ) → is_blank b ≡ true → step_of 16 b ≡ Skip
unfolding step_of is_blank digit_of
parts b h = blank_is (λ (c : ℕ). step_of 16 c ≡ Skip) b h refl refl

ends : (half b : ℕ) → half < 16 → is_blank b ≡ true → step_of half b ≡ Whole half
unfolding step_of is_blank digit_of
ends half b k h = blank_is (λ (c : ℕ). step_of half c ≡ Whole half) b h (rw (lt-ltb half 16 k)) (rw (lt-ltb half 16 k))

-- ---- a run

module _ (b : ℕ) (rest : List ℕ) (blank : is_blank b ≡ true) where
  pub run_parted : (ds : List ℕ) (at : ℕ) → Digits ds → hex_go (ds ++ b ∷ rest) 16 at ≡ bytes_before (cut ds) (hex_go rest 16 (at + length ds + 1))
  unfolding hex_go cut bytes_before
  run_parted [] at h = let e : at + 0 + 1 ≡ at + 1 = omega arith in rw (parts b blank, e)
  run_parted (a ∷ []) at h = rw (first a h.0, ends (digit_of a) b h.0 blank)
  run_parted (a ∷ c ∷ ds) at h =
      let e : at + 1 + 1 + length ds + 1 ≡ at + length (a ∷ c ∷ ds) + 1 = omega arith in
      rw (first a h.0, second (digit_of a) c h.0 h.1.0, run_parted ds (at + 1 + 1) h.1.1, e)

run_last : (ds : List ℕ) (at : ℕ) → Digits ds → hex_go ds 16 at ≡ good (cut ds)
unfolding hex_go cut byte_before
run_last [] at h = refl
run_last (a ∷ []) at h = rw (first a h.0, lt-ltb (digit_of a) 16 h.0)
run_last (a ∷ c ∷ ds) at h = rw (first a h.0, second (digit_of a) c h.0 h.1.0, run_last ds (at + 1 + 1) h.1.1)

-- data that are one run
pub run_data : (ds : List ℕ) → Digits ds → hex_at ds 0 ≡ good (cut ds)
unfolding hex_at
run_data ds h = run_last ds 0 h
