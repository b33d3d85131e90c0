-- The laws of decimal digits: how many a number has, and that each is one. Assumes nothing.
use Prim.Native.Nat.{ℕ, zero, suc, ◌+◌, ◌/◌, ◌%◌, ◌^◌, ◌*◌, ◌≤◌, ◌<◌}
use mathlib.Core.Path.{◌≡◌, refl, sym, ap}
use mathlib.Core.Bool.{Bool, true, false, cond}
use native.Mathlib.Nat.{pow-suc, pow-le-pow_right, one-le-pow, div-lt_iff_lt-mul, mod-lt, mul_comm}
use native.Mathlib.Numerals.{add-one}
use native.Mathlib.Decide.{dec_le}
use native.Mathlib.Omega.{arith}
use lib.Dec.{ltb}
use lib.ListN.{length}
use borrow.Author.Tests.{ltb-true, ltb-false}
use Rattle.writer.specs.Put.{fixed, width_go, width_of, decimal}
use Rattle.reader.proofs.Tests.{Every}
use Rattle.reader.proofs.Solid.{Shown, Solid}

pub ten_pos : (k : ℕ) → 0 < 10 ^ k
ten_pos k = one-le-pow k 10 (omega arith)

pub ten_next : (k : ℕ) → 10 ^ k * 10 ≡ 10 ^ (k + 1)
ten_next k = rw (add-one k) (sym (pow-suc 10 k))

-- the first of `k` + 1 digits is one
pub first_digit : (k m : ℕ) → m < 10 ^ suc k → m / 10 ^ k < 10
first_digit k m h = (div-lt_iff_lt-mul (ten_pos k)).1 (rw (pow-suc 10 k, mul_comm (10 ^ k) 10) at h)

-- ---- how many digits: `w` at least, no more than `k` where that many are enough, and enough

between : (w k m : ℕ) → 10 ^ w ≤ m → m < 10 ^ k → w + 1 ≤ k
between w k m a b = go (dec_le k w)
  where
    go : Dec (k ≤ w) → w + 1 ≤ k
    go (yes p) = let r : 10 ^ k ≤ 10 ^ w = pow-le-pow_right (omega arith) p in omega arith
    go (no p) = omega arith

width_go_some : (more w m : ℕ) → w ≤ width_go more w m
unfolding width_go
width_go_some zero w m = omega arith
width_go_some (suc more) w m = go (ltb m (10 ^ w)) (width_go_some more (w + 1) m)
  where
    go : (t : Bool) → w + 1 ≤ width_go more (w + 1) m → w ≤ cond t w (width_go more (w + 1) m)
    go true h = omega arith
    go false h = omega arith

width_go_few : (more w m k : ℕ) → w ≤ k → m < 10 ^ k → width_go more w m ≤ k
unfolding width_go
width_go_few zero w m k h l = h
width_go_few (suc more) w m k h l = go (ltb m (10 ^ w)) refl (width_go_few more (w + 1) m k)
  where
    go : (t : Bool) → ltb m (10 ^ w) ≡ t → (w + 1 ≤ k → m < 10 ^ k → width_go more (w + 1) m ≤ k) → cond t w (width_go more (w + 1) m) ≤ k
    go true e f = h
    go false e f = f (between w k m (ltb-false m (10 ^ w) e) l) l

width_go_fits : (more w m : ℕ) → m < 10 ^ (w + more) → m < 10 ^ width_go more w m
unfolding width_go
width_go_fits zero w m h =
    let e : w + 0 ≡ w = omega arith in
    rw e at h
width_go_fits (suc more) w m h =
    let s : w + suc more ≡ w + 1 + more = omega arith in
    go (ltb m (10 ^ w)) refl (width_go_fits more (w + 1) m (rw s at h))
  where
    go : (t : Bool) → ltb m (10 ^ w) ≡ t → m < 10 ^ width_go more (w + 1) m → m < 10 ^ cond t w (width_go more (w + 1) m)
    go true e f = ltb-true m (10 ^ w) e
    go false e f = f

pub width_few : (k n : ℕ) → 0 < k → n < 10 ^ k → width_of n ≤ k
unfolding width_of
width_few k n h l = width_go_few 9 1 n k h l

pub fits_width : (n : ℕ) → n < 10 ^ 10 → n < 10 ^ width_of n
unfolding width_of
fits_width n h = width_go_fits 9 1 n h

fixed_length : (k m : ℕ) → length (fixed k m) ≡ k
unfolding fixed
fixed_length zero m = refl
fixed_length (suc k) m = ap suc (fixed_length k (m % 10 ^ k))

pub decimal_length : (n : ℕ) → length (decimal n) ≡ width_of n
unfolding decimal
decimal_length n = fixed_length (width_of n) n

pub decimal_some : (n : ℕ) → 0 < length (decimal n)
unfolding width_of
decimal_some n = omega (arith, decimal_length n, width_go_some 9 1 n)

pub decimal_few : (k n : ℕ) → 0 < k → n < 10 ^ k → length (decimal n) ≤ k
decimal_few k n h l = rw (decimal_length n) (width_few k n h l)

-- ---- what every digit has, all bytes of the number have

fixed_every : (P : ℕ → Type 0) → ((d : ℕ) → d < 10 → P (48 + d)) → (k m : ℕ) → m < 10 ^ k → Every P (fixed k m)
unfolding fixed
fixed_every P f zero m h = tt
fixed_every P f (suc k) m h = (f (m / 10 ^ k) (first_digit k m h), fixed_every P f k (m % 10 ^ k) (mod-lt m (ten_pos k)))

pub decimal_every : (P : ℕ → Type 0) → ((d : ℕ) → d < 10 → P (48 + d)) → (n : ℕ) → n < 10 ^ 10 → Every P (decimal n)
unfolding decimal
decimal_every P f n h = fixed_every P f (width_of n) n (fits_width n h)

pub decimal_low : (n : ℕ) → n < 10 ^ 10 → Every (λ b. b < 58) (decimal n)
decimal_low n h = decimal_every (λ b. b < 58) (λ d l. omega arith) n h

pub decimal_solid : (n : ℕ) → n < 10 ^ 10 → Solid (decimal n)
decimal_solid n h = decimal_every Shown (λ d l. record { low = omega arith; high = omega arith }) n h
