-- The loops over decimal digits: how many there are, and how they are written. Assumes nothing.
use Prim.Native.Nat.{ℕ, zero, suc, ◌+◌, ◌-◌, ◌*◌, ◌/◌, ◌%◌, ◌^◌, ◌≤◌, ◌<◌}
use Rattle.std.specs.Prelude.{None}
use mathlib.Core.Path.{◌≡◌, refl, sym, ap, ◌∙◌}
use mathlib.Core.List.{List, [], append-nil}
use native.Mathlib.Nat.{pow-suc, mul-div_cancel, mod-lt}
use native.Mathlib.Omega.{arith}
use lib.ListN.{length, take, drop, set, length-drop, drop_of_length-le}
use lib.Seq.{sets-eq, length-take-le}
use borrow.Author.Tests.{lt-ltb, le-ltb}
use Rattle.writer.specs.Put.{fixed, width_go, width_of, decimal, put_answer, put_into}
use Rattle.writer.proofs.Decimals.{ten_pos, ten_next, fits_width, decimal_length}
use Rattle.reader.proofs.Placing.{Placing, begun, renamed, stored, placed}
use Rattle.writer.proofs.Writing.{no_room}

-- ---- the width of `n` is looked for among `w`, `w` + 1, .. 10; `p` is ten to the `w`
pub record Widening (n w p : ℕ) : Type 0 where
  pub few : w ≤ 10
  pub power : p ≡ 10 ^ w
  pub whole : width_of n ≡ width_go (10 - w) w n

pub narrow : {n : ℕ} → Widening n 1 10
unfolding width_of
narrow = record { few = omega arith; power = refl; whole = refl }

width_found : (more w m : ℕ) → m < 10 ^ w → width_go more w m ≡ w
unfolding width_go
width_found zero w m k = refl
width_found (suc more) w m k = simp (lt-ltb m (10 ^ w) k)

module _ {n w p : ℕ} (v : Widening n w p) where
  found : width_go (10 - w) w n ≡ w → (w ≡ width_of n) × (p ≡ 10 ^ width_of n)
  found e = let f : width_of n ≡ w = v.whole ∙ e in (sym f, v.power ∙ ap (λ (x : ℕ). 10 ^ x) (sym f))

  pub wide_enough : n < p → (w ≡ width_of n) × (p ≡ 10 ^ width_of n)
  wide_enough h = found (width_found (10 - w) w n (rw v.power at h))

  pub widest : 10 ≤ w → (w ≡ width_of n) × (p ≡ 10 ^ width_of n)
  unfolding width_go
  widest h = let e : 10 - w ≡ 0 = omega (arith, v.few) in found (rw e)

  pub wider : w < 10 → p ≤ n → Widening n (w + 1) (p * 10)
  unfolding width_go
  wider h k =
      let e : 10 - w ≡ suc (10 - (w + 1)) = omega arith in
      record {
        few = omega arith;
        power = ap (λ (x : ℕ). x * 10) v.power ∙ ten_next w;
        whole = v.whole ∙ rw e (simp (le-ltb n (10 ^ w) (rw v.power at k)));
      }

-- ---- `left` digits of `m` are still to be written; `p` is ten to the `left`
pub record Digiting (d₀ : List ℕ) (at : ℕ) (bs d : List ℕ) (p left m place : ℕ) : Type 0 where
  pub power : p ≡ 10 ^ left
  pub below : m < 10 ^ left
  pub placing : Placing d₀ at bs d place (fixed left m)

-- `k` and `p` are the width and its power of ten, as the code has found them
pub no_digits : (d : List ℕ) (at n : ℕ) {k : ℕ} → k ≡ width_of n → length d < at + k → (None ≡ put_answer (decimal n) d at) × (d ≡ put_into (decimal n) d at)
no_digits d at n e h = no_room (decimal n) d at (omega (arith, decimal_length n))

pub unplaced : {d : List ℕ} {at n k p : ℕ} → (k ≡ width_of n) × (p ≡ 10 ^ width_of n) → n < 10 ^ 10 → at + k ≤ length d
    → Digiting d at (decimal n) d p k n at
unfolding decimal
unplaced {d} {at} {n} {k} w h r =
    let e : at + length (decimal n) ≤ length d = omega (arith, decimal_length n, w.0) in
    record {
      power = w.1 ∙ ap (λ (x : ℕ). 10 ^ x) (sym w.0);
      below = rw w.0 (fits_width n h);
      placing = renamed (ap (λ (x : ℕ). fixed x n) (sym w.0)) (begun e);
    }

ten_back : (left : ℕ) → 10 ^ suc left / 10 ≡ 10 ^ left
ten_back left = ap (λ (x : ℕ). x / 10) (pow-suc 10 left) ∙ mul-div_cancel (10 ^ left) (omega arith)

module _ {d₀ : List ℕ} {at : ℕ} {bs d : List ℕ} {p m place : ℕ} where
  pub power_left : (left : ℕ) → Digiting d₀ at bs d p left m place → 0 < left → 0 < p / 10
  power_left zero w h = absurd (omega arith)
  power_left (suc left) w h = rw (w.power, ten_back left) (ten_pos left)

  -- `rest` is one fewer
  pub digit_placed : (left rest : ℕ) → Digiting d₀ at bs d p left m place → left ≡ suc rest
      → Digiting d₀ at bs (set d place (48 + m / (p / 10))) (p / 10) rest (m % (p / 10)) (place + 1)
  unfolding fixed
  digit_placed zero rest w h = absurd (omega arith)
  digit_placed (suc left) rest w h =
      let e : rest ≡ left = omega arith in
      rw (e, w.power, ten_back left) (record { power = refl; below = mod-lt m (ten_pos left); placing = stored w.placing })

-- ---- the part of the slice that is lent for `k` digits: its length, and that they fill it
pub part_long : (d : List ℕ) (at k : ℕ) → at + k ≤ length d → length (take (at + k - at) (drop at d)) ≡ k
part_long d at k h =
    let e : at + k - at ≡ k = omega arith in
    rw e (length-take-le k (drop at d) (omega (arith, length-drop at d)))

pub part_filled : {d₀ bs d : List ℕ} {p m place : ℕ} (left : ℕ) → Digiting d₀ 0 bs d p left m place → left ≤ 0 → length d₀ ≡ length bs → d ≡ bs
unfolding fixed
part_filled {d₀} {bs} zero w h e =
    let n : drop (0 + length bs) d₀ ≡ [] = drop_of_length-le d₀ (omega arith) in
    placed w.placing ∙ sets-eq bs d₀ 0 w.placing.room ∙ rw (n, append-nil) refl
part_filled (suc left) w h e = absurd (omega arith)
