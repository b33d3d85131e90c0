-- What the readers answer is right: numbers within their limits, bytes below 256 and no more than the text has room for, clock
-- values within their ranges. Assumes nothing.
use Rattle.std.specs.Prelude.{Ok, Err}
use Prim.Native.Nat.{ℕ, suc, ◌+◌, ◌-◌, ◌*◌, ◌≤◌, ◌<◌}
use mathlib.Core.Path.{◌≡◌, refl}
use mathlib.Core.Bool.{true, cond, ◌&&◌}
use mathlib.Core.List.{List, [], ◌∷◌}
use native.Mathlib.Omega.{arith}
use lib.Dec.{ltb, leb, eqb}
use lib.ListN.{length, drop}
use borrow.Author.Tests.{ltb-true, lt-ltb, leb-true}
use Rattle.reader.specs.Bytes.{digit_of, is_blank, all, same}
use Rattle.numbers.specs.Number.{NumberRead, value_at, digits_ended, number_go, number_at, second_of, pair_of}
use Rattle.hex_data.specs.Hex.{Said, byte_before, step_of, after_step, hex_go, hex_at, hex_second, hex_byte_of, hex_byte_at, good, bad}
use Rattle.hex_data.specs.Hex.{HexStep}
use Rattle.hex_data.specs.Hex.{Refuse, Skip, First, Whole}
use Rattle.reader.proofs.Tests.{both, both_right, by_cases}
use Rattle.language.specs.Clock.{Range, within, value_before, fill, from, clock_of, second_on, minute_on, hour_on, day_on}
use Rattle.language.specs.Listing.{last_of}
use Rattle.language.specs.Right.{is_byte, in_ranges, clock_right}
use Rattle.language.proofs.Clocks.{in_length}

-- what holds of the values that are said, and of a number that is read
abbrev pub When : (List ℕ → Type 0) → Said → Type 0
When P (good vs) = P vs
When P (bad at) = Unit {0}

abbrev pub Reads : (ℕ → Type 0) → NumberRead → Type 0
Reads P (Ok n) = P n.value
Reads P (Err at) = Unit {0}

when_before : (P Q : List ℕ → Type 0) (v : ℕ) (x : Said) → ((vs : List ℕ) → P vs → Q (v ∷ vs)) → When P x → When Q (byte_before v x)
unfolding byte_before
when_before P Q v (good vs) f h = f vs h
when_before P Q v (bad at) f h = tt

when_weaker : (P Q : List ℕ → Type 0) (x : Said) → ((vs : List ℕ) → P vs → Q vs) → When P x → When Q x
when_weaker P Q (good vs) f h = f vs h
when_weaker P Q (bad at) f h = tt

-- ---- numbers

ended_reads : (P : ℕ → Type 0) (n v at : ℕ) → P v → Reads P (digits_ended n v at)
unfolding digits_ended
ended_reads P n v at h = by_cases (Reads P) (ltb 0 n) (value_at v at) (Err at) (λ e. h) (λ e. tt)

go_reads : (most limit : ℕ) (l : List ℕ) (n v at : ℕ) → v ≤ limit → Reads (λ x. x ≤ limit) (number_go most limit l n v at)
unfolding number_go
go_reads most limit [] n v at h = ended_reads (λ x. x ≤ limit) n v at h
go_reads most limit (b ∷ l) n v at h =
    let w : ℕ = v * 10 + digit_of b in
    by_cases (Reads (λ x. x ≤ limit)) (ltb (digit_of b) 10) _ (digits_ended n v at)
    (λ e. by_cases (Reads (λ x. x ≤ limit)) (ltb n most) _ (Err at)
    (λ e₁. by_cases (Reads (λ x. x ≤ limit)) (leb w limit) (number_go most limit l (n + 1) w (at + 1)) (Err at)
    (λ e₂. go_reads most limit l (n + 1) w (at + 1) (leb-true w limit e₂)) (λ e₂. tt)) (λ e₁. tt))
    (λ e. ended_reads (λ x. x ≤ limit) n v at h)

pub number_reads : (most limit : ℕ) (l : List ℕ) (at : ℕ) → Reads (λ x. x ≤ limit) (number_at most limit l at)
unfolding number_at
number_reads most limit l at = go_reads most limit (drop at l) 0 0 at (omega arith)

-- ---- hex

-- two digits make a byte, and of a last one alone the high digit may be missing
pub record Bytes (room : ℕ) (bs : List ℕ) : Type 0 where
  pub small : all is_byte bs ≡ true
  pub few : length bs * 2 ≤ suc room
  pub last : length bs * 2 ≡ suc room → last_of bs < 16

none : (room : ℕ) → Bytes room []
none room = record { small = refl; few = omega arith; last = λ e. omega arith }

lone : (h : ℕ) → h < 16 → Bytes 1 (h ∷ [])
unfolding is_byte
lone h k = record { small = both (ltb h 256) true (lt-ltb h 256 (omega arith)) refl; few = omega arith; last = λ e. k }

-- a byte in front leaves the last one where it is
last_of_lem : (b : ℕ) (bs : List ℕ) → 0 < length bs → last_of (b ∷ bs) ≡ last_of bs
last_of_lem b bs h = let e : length (b ∷ bs) - 1 ≡ suc (length bs - 1) = omega arith in rw e

one_more : (room b : ℕ) (bs : List ℕ) → b < 256 → Bytes room bs → Bytes (2 + room) (b ∷ bs)
unfolding is_byte
one_more room b bs h r =
    record {
      small = both (ltb b 256) (all is_byte bs) (lt-ltb b 256 h) r.small;
      few = omega (arith, r.few);
      last = λ e. rw (last_of_lem b bs (omega arith)) (r.last (omega arith));
    }

weaker : {room more : ℕ} (x : Said) → room ≤ more → When (Bytes room) x → When (Bytes more) x
weaker (good bs) h r = record { small = r.small; few = omega (arith, r.few); last = λ e. r.last (omega (arith, r.few)) }
weaker (bad at) h r = tt

-- a digit that waits for its second counts for one
abbrev waiting : ℕ → ℕ
waiting half = cond (ltb half 16) 1 0

hex_right : (l : List ℕ) (half at : ℕ) → When (Bytes (waiting half + length l)) (hex_go l half at)
unfolding hex_go step_of
hex_right [] half at =
    by_cases (Bytes (waiting half + 0)) (ltb half 16) (half ∷ []) []
    (λ e. rw e (lone half (ltb-true half 16 e))) (λ e. none (waiting half + 0))
hex_right (b ∷ l) half at =
    let d : ℕ = digit_of b in
    let next = hex_right l 16 (at + 1) in
    by_cases Goes (ltb d 16) _ _
    (λ e. by_cases Goes (ltb half 16) (Whole (half * 16 + d)) (First d)
    (λ e₁. whole (half * 16 + d) (ltb-true half 16 e₁) (omega (arith, ltb-true d 16 e, ltb-true half 16 e₁)) next)
    (λ e₁. weaker (hex_go l d (at + 1)) (one d) (hex_right l d (at + 1))))
    (λ e. by_cases Goes (is_blank b) _ Refuse
    (λ e₁. by_cases Goes (ltb half 16) (Whole half) Skip
    (λ e₂. whole half (ltb-true half 16 e₂) (omega (arith, ltb-true half 16 e₂)) next)
    (λ e₂. weaker (hex_go l 16 (at + 1)) (omega arith) next))
    (λ e₁. tt))
  where
    Goes : HexStep → Type 0
    Goes st = When (Bytes (waiting half + suc (length l))) (after_step at st (hex_go l 16 (at + 1)) (λ h. hex_go l h (at + 1)))

    one : (d : ℕ) → waiting d + length l ≤ waiting half + suc (length l)
    one d = by_cases (λ (n : ℕ). n + length l ≤ waiting half + suc (length l)) (ltb d 16) 1 0 (λ e. omega arith) (λ e. omega arith)

    whole : (v : ℕ) → half < 16 → v < 256 → When (Bytes (0 + length l)) (hex_go l 16 (at + 1)) → Goes (Whole v)
    whole v h k r =
        rw (lt-ltb half 16 h)
        (weaker (byte_before v (hex_go l 16 (at + 1))) (omega arith)
        (when_before (Bytes (0 + length l)) (Bytes (2 + (0 + length l))) v (hex_go l 16 (at + 1)) (λ bs q. one_more (0 + length l) v bs k q) r))

pub hex_data_right : (l : List ℕ) → When (Bytes (length l)) (hex_at l 0)
unfolding hex_at
hex_data_right l = weaker (hex_go l 16 0) (omega arith) (hex_right l 16 0)

-- one byte of one or two digits
second_reads : (h : ℕ) (l : List ℕ) (at : ℕ) → h < 16 → Reads (λ v. v < 256) (hex_second h l at)
unfolding hex_second
second_reads h [] at k = omega arith
second_reads h (b ∷ l) at k =
    by_cases (Reads (λ v. v < 256)) (ltb (digit_of b) 16) (value_at (h * 16 + digit_of b) (at + 1)) (value_at h at)
    (λ e. omega (arith, ltb-true (digit_of b) 16 e)) (λ e. omega arith)

pub hex_byte_reads : (l : List ℕ) → Reads (λ v. v < 256) (hex_byte_at l 0)
unfolding hex_byte_at hex_byte_of
hex_byte_reads [] = tt
hex_byte_reads (a ∷ l) =
    by_cases (Reads (λ v. v < 256)) (ltb (digit_of a) 16) (hex_second (digit_of a) l 1) (Err 0)
    (λ e. second_reads (digit_of a) l 1 (ltb-true (digit_of a) 16 e)) (λ e. tt)

-- ---- clock values

pub pair_reads : (r : Range) (l : List ℕ) (at : ℕ) → Reads (λ v. within r v ≡ true) (pair_of r.low r.high l at)
unfolding pair_of second_of within
pair_reads r [] at = tt
pair_reads r (a ∷ []) at =
    by_cases (Reads (λ v. within r v ≡ true)) (ltb (digit_of a) 10 && (leb r.low (digit_of a * 10 + 9) && leb (digit_of a * 10) r.high)) (Err (at + 1)) (Err at)
    (λ e. tt) (λ e. tt)
pair_reads r (a ∷ b ∷ l) at =
    let v : ℕ = digit_of a * 10 + digit_of b in
    by_cases (Reads (λ v. within r v ≡ true)) (ltb (digit_of a) 10 && (leb r.low (digit_of a * 10 + 9) && leb (digit_of a * 10) r.high)) _ (Err at)
    (λ e. by_cases (Reads (λ v. within r v ≡ true)) (ltb (digit_of b) 10 && within r v) (value_at v (at + 1 + 1)) (Err (at + 1))
    (λ e₁. both_right (ltb (digit_of b) 10) (within r v) e₁) (λ e₁. tt)) (λ e. tt)

-- units that may be left out
abbrev Zero : List Range → Type 0
Zero [] = Unit {0}
Zero (r ∷ rs) = (within r 0 ≡ true) × Zero rs

In : List Range → List ℕ → Type 0
In rs vs = in_ranges rs vs ≡ true

in_more : (r : Range) (rs : List Range) (v : ℕ) → within r v ≡ true → (vs : List ℕ) → In rs vs → In (r ∷ rs) (v ∷ vs)
unfolding In in_ranges
in_more r rs v h vs k = both (within r v) (in_ranges rs vs) h k

-- a value in front of those that are in the further ranges
value_more : (r : Range) (rs : List Range) (n : NumberRead) (x : Said) → Reads (λ v. within r v ≡ true) n → When (In rs) x
    → When (In (r ∷ rs)) (value_before n x)
unfolding value_before
value_more r rs (Ok n) x h k = when_before (In rs) (In (r ∷ rs)) n.value x (in_more r rs n.value h) k
value_more r rs (Err at) x h k = tt

fill_right : (rs : List Range) (l : List ℕ) (at : ℕ) → Zero rs → When (In rs) (fill rs l at)
unfolding fill
fill_right [] l at z = by_cases (When (In [])) (same l []) (good []) (bad at) (λ e. unfold In in_ranges in refl) (λ e. tt)
fill_right (r ∷ rs) [] at z = when_before (In rs) (In (r ∷ rs)) 0 (fill rs [] at) (in_more r rs 0 z.0) (fill_right rs [] at z.1)
fill_right (r ∷ rs) (b ∷ l) at z = value_more r rs _ _ (pair_reads r (b ∷ l) at) (fill_right rs (drop 1 l) (at + 2) z.1)

-- values in the ranges of the shortest units are a clock value
Clock : List ℕ → Type 0
Clock vs = clock_right vs ≡ true

none_in : (vs : List ℕ) → In [] vs → Clock vs
unfolding In Clock clock_right
none_in [] h = refl
none_in (v ∷ vs) h = absurd (omega (arith, in_length [] (v ∷ vs) h))

second_in_lem : (vs : List ℕ) → In second_on vs → Clock vs
unfolding Clock clock_right In
second_in_lem [] h = refl
second_in_lem (s ∷ []) h = h
second_in_lem (s ∷ t ∷ more) h = absurd (omega (arith, in_length second_on (s ∷ t ∷ more) h))

minute_in_lem : (vs : List ℕ) → In minute_on vs → Clock vs
unfolding Clock clock_right In
minute_in_lem [] h = refl
minute_in_lem (s ∷ []) h = absurd (omega (arith, in_length minute_on (s ∷ []) h))
minute_in_lem (m ∷ s ∷ []) h = h
minute_in_lem (m ∷ s ∷ t ∷ more) h = absurd (omega (arith, in_length minute_on (m ∷ s ∷ t ∷ more) h))

hour_in_lem : (vs : List ℕ) → In hour_on vs → Clock vs
unfolding Clock clock_right In
hour_in_lem [] h = refl
hour_in_lem (s ∷ []) h = absurd (omega (arith, in_length hour_on (s ∷ []) h))
hour_in_lem (m ∷ s ∷ []) h = absurd (omega (arith, in_length hour_on (m ∷ s ∷ []) h))
hour_in_lem (o ∷ m ∷ s ∷ []) h = h
hour_in_lem (o ∷ m ∷ s ∷ t ∷ more) h = absurd (omega (arith, in_length hour_on (o ∷ m ∷ s ∷ t ∷ more) h))

day_in_lem : (vs : List ℕ) → In day_on vs → Clock vs
unfolding Clock clock_right In
day_in_lem [] h = refl
day_in_lem (s ∷ []) h = absurd (omega (arith, in_length day_on (s ∷ []) h))
day_in_lem (m ∷ s ∷ []) h = absurd (omega (arith, in_length day_on (m ∷ s ∷ []) h))
day_in_lem (o ∷ m ∷ s ∷ []) h = absurd (omega (arith, in_length day_on (o ∷ m ∷ s ∷ []) h))
day_in_lem (d ∷ o ∷ m ∷ s ∷ more) h = h

from_right : (r : Range) (rs : List Range) (l : List ℕ) (at : ℕ) → Zero rs → ((vs : List ℕ) → In rs vs → Clock vs) → ((vs : List ℕ) → In (r ∷ rs) vs → Clock vs)
    → When Clock (from (r ∷ rs) l at)
unfolding from fill
from_right r rs [] at z f g = when_weaker (In rs) Clock (fill rs [] at) f (fill_right rs [] at z)
from_right r rs (b ∷ l) at z f g =
    when_weaker (In (r ∷ rs)) Clock (fill (r ∷ rs) (b ∷ l) at) g (value_more r rs _ _ (pair_reads r (b ∷ l) at) (fill_right rs (drop 1 l) (at + 2) z))

hour_from : (l : List ℕ) (at : ℕ) → When Clock (from hour_on l at)
unfolding within
hour_from l at = from_right _ minute_on l at (refl, (refl, tt)) minute_in_lem hour_in_lem

clock_read_lem : (l : List ℕ) → When Clock (clock_of l)
unfolding clock_of within
clock_read_lem [] = hour_from [] 0
clock_read_lem (b ∷ l) =
    by_cases (When Clock) (eqb b 68) _ _ (λ e. from_right _ hour_on l 1 (refl, (refl, (refl, tt))) hour_in_lem day_in_lem)
    (λ e. by_cases (When Clock) (eqb b 104) _ _ (λ e₁. hour_from l 1)
    (λ e₁. by_cases (When Clock) (eqb b 109) _ _ (λ e₂. from_right _ second_on l 1 (refl, tt) second_in_lem minute_in_lem)
    (λ e₂. by_cases (When Clock) (eqb b 115) _ _ (λ e₃. from_right _ [] l 1 tt none_in second_in_lem) (λ e₃. hour_from (b ∷ l) 0))))

pub clock_right_lem : (l : List ℕ) → When (λ vs. clock_right vs ≡ true) (clock_of l)
unfolding Clock
clock_right_lem l = clock_read_lem l
