-- Zeros after a list: what is written after its end, or in the place of its last element; and what was put in front of one. Assumes
-- nothing.
use Prim.Native.Nat.{ℕ, zero, suc, ◌+◌, ◌-◌, ◌≤◌, ◌<◌}
use mathlib.Core.Path.{◌≡◌, refl, sym, ap, ◌∙◌}
use mathlib.Core.List.{List, [], ◌∷◌, ◌++◌}
use native.Mathlib.Omega.{arith}
use lib.ListN.{length, take, drop, set, replicate, length-append, length-replicate}
use lib.Seq.{sets, sets-eq, length-sets, take_at, drop-append-add, set_at, append_snoc}
use Rattle.language.specs.Table.{padded}
use Rattle.compiler.specs.Inside.Drafting.{Fronts}

pub padded_length : (n : ℕ) (a : List ℕ) → length a ≤ n → length (padded n a) ≡ n
padded_length n a h = simp (length-append, length-replicate) (omega arith)

drop_zeros : (k n : ℕ) → drop {A = ℕ} k (replicate n 0) ≡ replicate (n - k) 0
drop_zeros zero n = let e : n ≡ n - 0 = omega arith in ap (λ (m : ℕ). replicate m 0) e
drop_zeros (suc k) zero = let e : 0 ≡ 0 - suc k = omega arith in ap (λ (m : ℕ). replicate m 0) e
drop_zeros (suc k) (suc n) = let e : n - k ≡ suc n - suc k = omega arith in drop_zeros k n ∙ ap (λ (m : ℕ). replicate m 0) e

pub put_behind : (n : ℕ) (a bs : List ℕ) → length a + length bs ≤ n → sets (padded n a) (length a) bs ≡ padded n (a ++ bs)
put_behind n a bs h =
    let l : length a + length bs ≤ length (padded n a) = rw (padded_length n a (omega arith)) h in
    let e : n - length a - length bs ≡ n - length (a ++ bs) = simp length-append (omega arith) in
    sets-eq bs (padded n a) (length a) l
    ∙ rw (
      take_at a (replicate (n - length a) 0) (length a) refl,
      drop-append-add a (replicate (n - length a) 0) (length bs),
      drop_zeros (length bs) (n - length a),
      e,
    )
    refl

pub set_behind : (n : ℕ) (a : List ℕ) (x : ℕ) → length a < n → set (padded n a) (length a) x ≡ padded n (a ++ x ∷ [])
set_behind n a x h = put_behind n a (x ∷ []) (omega arith)

pub set_last : (n : ℕ) (a : List ℕ) (x y : ℕ) → set (padded n (a ++ x ∷ [])) (length a) y ≡ padded n (a ++ y ∷ [])
set_last n a x y =
    let e : length (a ++ x ∷ []) ≡ length (a ++ y ∷ []) = simp length-append in
    rw e (ap (λ (l : List ℕ). set l (length a) y) (append_snoc a x _) ∙ set_at a x _ y (length a) refl ∙ sym (append_snoc a y _))

-- data in front of the lent bytes are read from there
pub front_of_lem : (size : ℕ) (lent bs : List ℕ) → Fronts lent bs → size ≡ length bs → size ≤ length lent → take size lent ≡ bs
front_of_lem size lent bs f n h =
    let l : length lent ≡ length f.before = ap length f.put ∙ length-sets f.before 0 bs in
    rw (f.put, n, sets-eq bs f.before 0 (omega arith)) (take_at bs _ (length bs) refl)
