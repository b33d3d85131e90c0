-- A refusal inside some bytes is final: what comes after them does not matter. Assumes nothing.
use Rattle.std.specs.Prelude.{Err}
use Prim.Native.Nat.{ℕ, ◌+◌, ◌*◌, ◌<◌}
use mathlib.Core.Path.{◌≡◌}
use mathlib.Core.List.{List, [], ◌∷◌, ◌++◌}
use mathlib.Core.Bool.{Bool, true, false, cond, ◌&&◌}
use native.Mathlib.Omega.{arith}
use lib.Dec.{ltb, leb}
use lib.ListN.{length}
use Rattle.reader.specs.Bytes.{digit_of}
use Rattle.numbers.specs.Number.{value_at, digits_ended, number_go, second_of, pair_of}

-- a choice keeps a refusal that both answers keep
pub kept : {A : Type 0} {r : A} (t : Bool) {x y x' y' : A} → (x ≡ r → x' ≡ r) → (y ≡ r → y' ≡ r) → cond t x y ≡ r → cond t x' y' ≡ r
kept true p q e = p e
kept false p q e = q e

pub same : {A : Type 0} {r x : A} → x ≡ r → x ≡ r
same e = e

-- where the digits end a refusal names that very place
ended_bad : (n v at k : ℕ) → digits_ended n v at ≡ Err k → at ≡ k
unfolding digits_ended
ended_bad n v at k e = go (ltb 0 n) e
  where
    go : (t : Bool) → cond t (value_at v at) (Err at) ≡ Err k → at ≡ k
    go true e = cc
    go false e = cc

pub number_final : (most limit : ℕ) (xs ys : List ℕ) (n v at k : ℕ) → k < at + length xs → number_go most limit xs n v at ≡ Err k
    → number_go most limit (xs ++ ys) n v at ≡ Err k
unfolding number_go
number_final most limit [] ys n v at k h e = let p = ended_bad n v at k e in absurd (omega arith)
number_final most limit (b ∷ rest) ys n v at k h e =
    let d : ℕ = digit_of b in
    kept (ltb d 10)
    (kept (ltb n most) (kept (leb (v * 10 + d) limit) (number_final most limit rest ys (n + 1) (v * 10 + d) (at + 1) k (omega arith)) same) same)
    same
    e

second_final : (low high d : ℕ) (xs ys : List ℕ) (at k : ℕ) → k < at + length xs → second_of low high d xs at ≡ Err k
    → second_of low high d (xs ++ ys) at ≡ Err k
unfolding second_of
second_final low high d [] ys at k h e = let p : at ≡ k = cc in absurd (omega arith)
second_final low high d (b ∷ rest) ys at k h e = e

pub pair_final : (low high : ℕ) (xs ys : List ℕ) (at k : ℕ) → k < at + length xs → pair_of low high xs at ≡ Err k
    → pair_of low high (xs ++ ys) at ≡ Err k
unfolding pair_of
pair_final low high [] ys at k h e = let p : at ≡ k = cc in absurd (omega arith)
pair_final low high (a ∷ rest) ys at k h e =
    let d : ℕ = digit_of a in
    kept (ltb d 10 && (leb low (d * 10 + 9) && leb (d * 10) high)) (second_final low high d rest ys (at + 1) k (omega arith)) same e
