-- A refusal inside some bytes of hex data is final: what comes after them does not matter. Assumes nothing.
use Rattle.std.specs.Prelude.{Err}
use Prim.Native.Nat.{ℕ, ◌+◌, ◌*◌, ◌<◌}
use mathlib.Core.Path.{◌≡◌}
use mathlib.Core.List.{List, [], ◌∷◌, ◌++◌}
use mathlib.Core.Bool.{Bool, true, false, cond}
use native.Mathlib.Omega.{arith}
use lib.Dec.{ltb}
use lib.ListN.{length}
use Rattle.reader.specs.Bytes.{digit_of}
use Rattle.numbers.specs.Number.{value_at}
use Rattle.numbers.proofs.Final.{kept, same}
use Rattle.hex_data.specs.Hex.{Said, good, bad, step_of, byte_before, after_step, hex_go, hex_second, hex_byte_of}
use Rattle.hex_data.specs.Hex.{HexStep}
use Rattle.hex_data.specs.Hex.{Refuse, Skip, First, Whole}

-- a first digit is there, so that the byte is not refused
hex_second_good : (h : ℕ) (l : List ℕ) (at k : ℕ) → hex_second h l at ≡ Err k → ⊥
unfolding hex_second
hex_second_good h [] at k e = let z : ◌≡◌ {A = ℕ} 0 1 = cc in omega arith
hex_second_good h (b ∷ rest) at k e = go (ltb (digit_of b) 16) e
  where
    go : (t : Bool) → cond t (value_at (h * 16 + digit_of b) (at + 1)) (value_at h at) ≡ Err k → ⊥
    go true e = let z : ◌≡◌ {A = ℕ} 0 1 = cc in omega arith
    go false e = let z : ◌≡◌ {A = ℕ} 0 1 = cc in omega arith

pub hex_byte_final : (xs ys : List ℕ) (at k : ℕ) → k < at + length xs → hex_byte_of xs at ≡ Err k → hex_byte_of (xs ++ ys) at ≡ Err k
unfolding hex_byte_of
hex_byte_final [] ys at k h e = let p : at ≡ k = cc in absurd (omega arith)
hex_byte_final (a ∷ rest) ys at k h e =
    kept (ltb (digit_of a) 16) (λ f. absurd (hex_second_good (digit_of a) rest (at + 1) k f)) same e

-- ---- hex data: they are refused at one of their bytes, never at their end

before_bad : (b k : ℕ) (x : Said) → byte_before b x ≡ bad k → x ≡ bad k
unfolding byte_before
before_bad b k (good bs) e = cc
before_bad b k (bad at) e = e

bad_before : (b k : ℕ) (x : Said) → x ≡ bad k → byte_before b x ≡ bad k
unfolding byte_before
bad_before b k (good bs) e = cc
bad_before b k (bad at) e = e

after_kept : (at k : ℕ) (st : HexStep) {x y : Said} {f g : ℕ → Said} → (x ≡ bad k → y ≡ bad k) → ((h : ℕ) → f h ≡ bad k → g h ≡ bad k)
    → after_step at st x f ≡ bad k → after_step at st y g ≡ bad k
after_kept at k Refuse p q e = e
after_kept at k Skip p q e = p e
after_kept at k (First h) p q e = q h e
after_kept at k (Whole b) {x} {y} p q e = bad_before b k y (p (before_bad b k x e))

pub hex_final : (xs ys : List ℕ) (half at k : ℕ) → hex_go xs half at ≡ bad k → hex_go (xs ++ ys) half at ≡ bad k
unfolding hex_go
hex_final [] ys half at k e = let z : ◌≡◌ {A = ℕ} 0 1 = cc in absurd (omega arith)
hex_final (b ∷ rest) ys half at k e =
    after_kept at k (step_of half b) (hex_final rest ys 16 (at + 1) k) (λ d. hex_final rest ys d (at + 1) k) e
