-- What was written is read back. Assumes nothing.
use Prim.Native.Nat.{ℕ, zero, suc, ◌+◌, ◌*◌, ◌/◌, ◌%◌, ◌^◌, ◌≤◌, ◌<◌}
use mathlib.Core.Path.{◌≡◌, refl, ap, ◌∙◌}
use mathlib.Core.List.{List, [], ◌∷◌, ◌++◌}
use native.Mathlib.Nat.{pow-suc, mod-lt, mul_comm, mul_assoc, add-mul, div-add-mod', le-mul_of_pos_right}
use native.Mathlib.Omega.{arith}
use borrow.Author.Tests.{lt-ltb, le-ltb, le-leb}
use Rattle.reader.specs.Bytes.{digit_of}
use Rattle.numbers.specs.Number.{value_at, digits_ended, number_go, second_of, pair_of}
use Rattle.writer.specs.Put.{fixed, width_of, decimal, two_digits}
use Rattle.reader.proofs.Digits.{digit_is}
use Rattle.writer.proofs.Decimals.{ten_pos, first_digit, fits_width, decimal_length, decimal_some}

-- ---- decimal numbers

-- no digit comes next
abbrev pub Stops : List ℕ → Type 0
Stops [] = Unit {0}
Stops (b ∷ rest) = 10 ≤ digit_of b

stops : (most limit : ℕ) (rest : List ℕ) (n v at : ℕ) → Stops rest → number_go most limit rest n v at ≡ digits_ended n v at
unfolding number_go
stops most limit [] n v at h = refl
stops most limit (b ∷ rest) n v at h = simp (le-ltb _ _ h)

-- the value of the digits read and those to come
regroup : (v d q r : ℕ) → (v * 10 + d) * q + r ≡ v * (q * 10) + (d * q + r)
regroup v d q r =
    let e : v * 10 * q ≡ v * (q * 10) = mul_assoc v 10 q ∙ ap (λ (x : ℕ). v * x) (mul_comm 10 q) in
    omega (arith, add-mul (v * 10) d q, e)

-- one digit that is taken
digit_taken : (most limit d : ℕ) (rest : List ℕ) (n v at : ℕ) → d < 10 → n < most → v * 10 + d ≤ limit
    → number_go most limit ((48 + d) ∷ rest) n v at ≡ number_go most limit rest (n + 1) (v * 10 + d) (at + 1)
unfolding number_go
digit_taken most limit d rest n v at h k l = simp (digit_is d h, lt-ltb d 10 h, lt-ltb n most k, le-leb _ _ l)

-- the digits of `m`, read after `n` digits with the value `v`
read_fixed : (most limit k m : ℕ) (rest : List ℕ) (n v at : ℕ) → m < 10 ^ k → n + k ≤ most → v * 10 ^ k + m ≤ limit
    → number_go most limit (fixed k m ++ rest) n v at ≡ number_go most limit rest (n + k) (v * 10 ^ k + m) (at + k)
unfolding fixed
read_fixed most limit zero m rest n v at h j l =
    let a : n + 0 ≡ n = omega arith in
    let b : v * 1 + m ≡ v = omega arith in
    let c : at + 0 ≡ at = omega arith in
    rw (a, b, c)
read_fixed most limit (suc k) m rest n v at h j l =
    let q : ℕ = 10 ^ k in
    let d : ℕ = m / q in
    let value : (v * 10 + d) * q + m % q ≡ v * 10 ^ suc k + m =
    rw (pow-suc 10 k) (regroup v d q (m % q) ∙ ap (λ (x : ℕ). v * (q * 10) + x) (div-add-mod' m q))
    in
    let fits : v * 10 + d ≤ limit = omega (arith, le-mul_of_pos_right (v * 10 + d) (ten_pos k), value) in
    let a : n + 1 + k ≡ n + suc k = omega arith in
    let c : at + 1 + k ≡ at + suc k = omega arith in
    digit_taken most limit d (fixed k (m % q) ++ rest) n v at (first_digit k m h) (omega arith) fits
    ∙ read_fixed most limit k (m % q) rest (n + 1) (v * 10 + d) (at + 1) (mod-lt m (ten_pos k)) (omega arith) (omega (arith, value))
    ∙ rw (a, c, value)

pub number_back : (most limit n : ℕ) (rest : List ℕ) (at : ℕ) → n ≤ limit → n < 10 ^ 10 → width_of n ≤ most → Stops rest
    → number_go most limit (decimal n ++ rest) 0 0 at ≡ value_at n (at + width_of n)
unfolding decimal digits_ended
number_back most limit n rest at l b m s =
    let w : ℕ = width_of n in
    let value : 0 * 10 ^ w + n ≡ n = omega arith in
    let some : 0 < w = omega (arith, decimal_length n, decimal_some n) in
    let zw : 0 + w ≡ w = omega arith in
    read_fixed most limit w n rest 0 0 at (fits_width n b) (omega arith) (omega (arith, value))
    ∙ rw (value, zw) (stops most limit rest w n (at + w) s ∙ simp (lt-ltb 0 w some))

-- ---- values of two digits

pub pair_back : (low high n : ℕ) (rest : List ℕ) (at : ℕ) → n < 100 → low ≤ n → n ≤ high
    → pair_of low high (two_digits n ++ rest) at ≡ value_at n (at + 2)
unfolding pair_of second_of two_digits
pair_back low high n rest at h l u =
    let d : n / 10 < 10 = omega arith in
    let e : n % 10 < 10 = omega arith in
    let v : n / 10 * 10 + n % 10 ≡ n = div-add-mod' n 10 in
    let p : low ≤ n / 10 * 10 + 9 = omega arith in
    let q : n / 10 * 10 ≤ high = omega arith in
    let two : at + 1 + 1 ≡ at + 2 = omega arith in
    rw (digit_is (n / 10) d, digit_is (n % 10) e, v, two)
    (simp (lt-ltb _ _ d, lt-ltb _ _ e, le-leb _ _ p, le-leb _ _ q, le-leb _ _ l, le-leb _ _ u))
