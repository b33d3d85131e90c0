-- Clock values: the digits unit by unit, from the longest to the shortest. Assumes nothing.
use Prim.Native.Nat.{ℕ, zero, suc, ◌+◌, ◌-◌, ◌*◌, ◌≤◌, ◌<◌}
use mathlib.Core.Path.{◌≡◌, refl, sym, ap, ◌∙◌}
use mathlib.Core.Bool.{cond}
use mathlib.Core.List.{List, [], ◌∷◌, ◌++◌}
use native.Mathlib.Omega.{arith}
use lib.Dec.{eqb}
use lib.ListN.{length, take, drop, get_or, length-drop, drop_of_length-le}
use lib.Seq.{take_all, drop-cons}
use native.Mathlib.Numerals.{add-one}
use Rattle.std.proofs.lemmas.List.{take_more_set}
use Rattle.std.proofs.Common.{append_assoc, append-nil, length-set}
use borrow.Author.Tests.{ne_eqb}
use Rattle.reader.specs.Bytes.{same}
use Rattle.hex_data.specs.Hex.{Said, byte_before, good, bad}
use Rattle.numbers.specs.Number.{NumberRead}
use Rattle.reader.proofs.Tests.{by_cases}
use Rattle.language.specs.declared.TextFault.TheVariants.{BadRest}
use Rattle.language.specs.declared.Clock.{Clock}
use Rattle.language.specs.declared.Cell.TheVariants.{WaitClock}
use Rattle.language.specs.Clock.{Range, range, value_before, second_on, minute_on, hour_on, day_on, fill, from, clock_of}
use Rattle.language.specs.Cell.{clock, clock_from}
use Rattle.language.specs.Table.{cell_for}
use Rattle.language.specs.Meaning.{clock_says}
use Rattle.language.proofs.Reading.{When}
use Rattle.line_values.specs.declared.Line.TheVariants.{Says}
use Rattle.std.specs.Prelude.{Ok, Err, slice_set, slice_index_or}
use Rattle.line_values.specs.Inside.Line.{line_from}
use Rattle.line_values.specs.Inside.ClockUnits.{unit_at, clock_read}
use Rattle.line_values.proofs.ClockUnits.{clock_part, goes_on_lem, stops}

-- ---- the units from the first on

when_before : (n v : ℕ) (x : Said) → When (λ vs. length vs ≡ n) x → When (λ vs. length vs ≡ suc n) (byte_before v x)
unfolding byte_before
when_before n v (good vs) h = ap suc h
when_before n v (bad at) h = tt

when_value : (n : ℕ) (w : NumberRead) (x : Said) → When (λ vs. length vs ≡ n) x → When (λ vs. length vs ≡ suc n) (value_before w x)
unfolding value_before
when_value n (Ok d) x h = when_before n d.value x h
when_value n (Err at) x h = tt

fill_length : (rs : List Range) (l : List ℕ) (at : ℕ) → When (λ vs. length vs ≡ length rs) (fill rs l at)
unfolding fill
fill_length [] l at = by_cases (When (λ vs. length vs ≡ 0)) (same l []) (good []) (bad at) (λ e. refl) (λ e. tt)
fill_length (r ∷ rs) [] at = when_before (length rs) 0 (fill rs [] at) (fill_length rs [] at)
fill_length (r ∷ rs) (b ∷ l) at = when_value (length rs) _ (fill rs (drop 1 l) (at + 2)) (fill_length rs (drop 1 l) (at + 2))

-- a clock value of so many units is the one that is made of them
whole_read : (n : ℕ) (f : List ℕ → Clock) → ((vs : List ℕ) → length vs ≡ n → clock_from vs ≡ f vs) → (x : Said) → When (λ vs. length vs ≡ n) x
    → clock_part f x ≡ clock_read x
unfolding clock_part clock_read
whole_read n f g (good vs) h = ap Ok (sym (g vs h))
whole_read n f g (bad at) h = refl

part_same : (f g : List ℕ → Clock) (x : Said) → ((vs : List ℕ) → f vs ≡ g vs) → clock_part f x ≡ clock_part g x
unfolding clock_part
part_same f g (good vs) h = ap Ok (h vs)
part_same f g (bad at) h = refl

-- a clock value by the places of its units, the day's first
abbrev of_places : ℕ → List ℕ → Clock
of_places fixed xs = clock fixed (get_or xs 0 0) (get_or xs 1 0) (get_or xs 2 0) (get_or xs 3 0)

of_four : (vs : List ℕ) → length vs ≡ 4 → clock_from vs ≡ of_places 4 vs
unfolding clock_from
of_four [] h = absurd (omega arith)
of_four (s ∷ []) h = absurd (omega arith)
of_four (m ∷ s ∷ []) h = absurd (omega arith)
of_four (o ∷ m ∷ s ∷ []) h = absurd (omega arith)
of_four (d ∷ o ∷ m ∷ s ∷ more) h = refl

of_three : (vs : List ℕ) → length vs ≡ 3 → clock_from vs ≡ of_places 3 (0 ∷ vs)
unfolding clock_from
of_three [] h = absurd (omega arith)
of_three (s ∷ []) h = absurd (omega arith)
of_three (m ∷ s ∷ []) h = absurd (omega arith)
of_three (o ∷ m ∷ s ∷ []) h = refl
of_three (d ∷ o ∷ m ∷ s ∷ more) h = absurd (omega arith)

of_two : (vs : List ℕ) → length vs ≡ 2 → clock_from vs ≡ of_places 2 (0 ∷ 0 ∷ vs)
unfolding clock_from
of_two [] h = absurd (omega arith)
of_two (s ∷ []) h = absurd (omega arith)
of_two (m ∷ s ∷ []) h = refl
of_two (o ∷ m ∷ s ∷ []) h = absurd (omega arith)
of_two (d ∷ o ∷ m ∷ s ∷ more) h = absurd (omega arith)

of_one : (vs : List ℕ) → length vs ≡ 1 → clock_from vs ≡ of_places 1 (0 ∷ 0 ∷ 0 ∷ vs)
unfolding clock_from
of_one [] h = absurd (omega arith)
of_one (s ∷ []) h = refl
of_one (m ∷ s ∷ []) h = absurd (omega arith)
of_one (o ∷ m ∷ s ∷ []) h = absurd (omega arith)
of_one (d ∷ o ∷ m ∷ s ∷ more) h = absurd (omega arith)

of_none : (vs : List ℕ) → length vs ≡ 0 → clock_from vs ≡ of_places 0 (0 ∷ 0 ∷ 0 ∷ 0 ∷ vs)
unfolding clock_from
of_none [] h = refl
of_none (s ∷ vs) h = absurd (omega arith)

stored : (values vs : List ℕ) (i v : ℕ) → i < length values → take i values ++ (v ∷ vs) ≡ take (i + 1) (slice_set values i v) ++ vs
stored values vs i v h = rw (take_more_set values i v h, append_assoc)

-- ---- the state of the loop: the units before `i` are read, and the others from the place `at` on

pub record Units (s : List ℕ) (start first at i : ℕ) (values : List ℕ) : Type 0 where
  pub whole : clock_read (fill (drop first day_on) (drop start s) start)
      ≡ clock_part (λ vs. of_places (4 - first) (take i values ++ vs)) (fill (drop i day_on) (drop at s) at)
  pub place : at + 2 * first ≡ start + 2 * i
  pub four : length values ≡ 4

begins : (first : ℕ) → first ≤ 4 → (l : List ℕ) (at : ℕ)
    → clock_read (fill (drop first day_on) l at) ≡ clock_part (λ vs. of_places (4 - first) (take first (0 ∷ 0 ∷ 0 ∷ 0 ∷ []) ++ vs)) (fill (drop first day_on) l at)
begins zero h l at = sym (whole_read 4 (of_places 4) of_four (fill day_on l at) (fill_length day_on l at))
begins (suc zero) h l at = sym (whole_read 3 (λ vs. of_places 3 (0 ∷ vs)) of_three (fill hour_on l at) (fill_length hour_on l at))
begins (suc (suc zero)) h l at = sym (whole_read 2 (λ vs. of_places 2 (0 ∷ 0 ∷ vs)) of_two (fill minute_on l at) (fill_length minute_on l at))
begins (suc (suc (suc zero))) h l at = sym (whole_read 1 (λ vs. of_places 1 (0 ∷ 0 ∷ 0 ∷ vs)) of_one (fill second_on l at) (fill_length second_on l at))
begins (suc (suc (suc (suc zero)))) h l at = sym (whole_read 0 (λ vs. of_places 0 (0 ∷ 0 ∷ 0 ∷ 0 ∷ vs)) of_none (fill [] l at) (fill_length [] l at))
begins (suc (suc (suc (suc (suc first))))) h l at = absurd (omega arith)

pub begun : (s : List ℕ) (start first : ℕ) → first ≤ 4 → Units s start first start first (0 ∷ 0 ∷ 0 ∷ 0 ∷ [])
begun s start first h = record { whole = begins first h (drop start s) start; place = refl; four = refl }

module _ {s : List ℕ} {start first at i : ℕ} {values : List ℕ} (w : Units s start first at i values) where
  module _ (r : Range) (next : drop i day_on ≡ r ∷ drop (suc i) day_on) where
    abbrev value : List ℕ → Clock
    value vs = of_places (4 - first) (take i values ++ vs)

    pub unit_refused : {k : ℕ} → Err k ≡ unit_at r (drop at s) at → Err k ≡ clock_read (fill (drop first day_on) (drop start s) start)
    unit_refused told =
        stops r (drop (suc i) day_on) s at value told
        ∙ ap (λ (rs : List Range). clock_part value (fill rs (drop at s) at)) (sym next)
        ∙ sym w.whole

    pub unit_read : {v : ℕ} → i < 4 → Ok v ≡ unit_at r (drop at s) at → Units s start first (at + 2) (i + 1) (slice_set values i v)
    unit_read {v} h told =
        let k : i < length values = omega (arith, w.four) in
        let shift : (vs : List ℕ) → value (v ∷ vs) ≡ of_places (4 - first) (take (i + 1) (slice_set values i v) ++ vs) =
        λ vs. ap (of_places (4 - first)) (stored values vs i v k) in
        record {
          whole =
              w.whole
              ∙ ap (λ (rs : List Range). clock_part value (fill rs (drop at s) at)) next
              ∙ goes_on_lem r (drop (suc i) day_on) s at value told
              ∙ part_same _ _ (fill (drop (suc i) day_on) (drop (at + 2) s) (at + 2)) shift
              ∙ rw add-one;
          place = omega (arith, w.place);
          four = rw length-set w.four;
        }

  module _ (h : 4 ≤ i) (k : i ≤ 4) where
    ended : clock_read (fill (drop first day_on) (drop start s) start)
        ≡ clock_part (λ vs. of_places (4 - first) (values ++ vs)) (fill [] (drop at s) at)
    ended =
        let e : i ≡ 4 = omega arith in
        let t : take 4 values ≡ values = take_all 4 values (omega (arith, w.four)) in
        let m = rw e at w.whole in
        m ∙ ap (λ (l : List ℕ). clock_part (λ vs. of_places (4 - first) (l ++ vs)) (fill [] (drop at s) at)) t

    pub surplus : at < length s → Err at ≡ clock_read (fill (drop first day_on) (drop start s) start)
    unfolding fill same clock_part
    surplus o = sym (ended ∙ rw (drop-cons s at 0 o))

    pub all_read : length s ≤ at → Ok (of_places (4 - first) values) ≡ clock_read (fill (drop first day_on) (drop start s) start)
    unfolding fill same clock_part
    all_read o = sym (ended ∙ rw (drop_of_length-le s o, append-nil))

-- the ranges as the code has them
abbrev ranges : List (ℕ × ℕ)
ranges = (1, 31) ∷ (0, 23) ∷ (0, 59) ∷ (0, 59) ∷ []

pub in_order : (i : ℕ) → i < 4 → drop i day_on ≡ range (slice_index_or ranges i (0, 0)).0 (slice_index_or ranges i (0, 0)).1 ∷ drop (suc i) day_on
in_order zero h = refl
in_order (suc zero) h = refl
in_order (suc (suc zero)) h = refl
in_order (suc (suc (suc zero))) h = refl
in_order (suc (suc (suc (suc i)))) h = absurd (omega arith)

-- ---- the first unit, fixed or not

from_some : (rs : List Range) (l : List ℕ) (at : ℕ) → 0 < length rs → 0 < length l → from rs l at ≡ fill rs l at
unfolding from
from_some [] l at g h = absurd (omega arith)
from_some (r ∷ rs) [] at g h = absurd (omega arith)
from_some (r ∷ rs) (b ∷ l) at g h = refl

module _ (s : List ℕ) (at first : ℕ) (few : first ≤ 3) where
  pub none_fixed : length s ≤ at → clock_read (fill (drop (first + 1) day_on) (drop at s) at) ≡ clock_read (from (drop first day_on) (drop at s) at)
  none_fixed h = rw (drop_of_length-le s h, add-one) (go first few)
    where
      go : (first : ℕ) → first ≤ 3 → clock_read (fill (drop (suc first) day_on) [] at) ≡ clock_read (from (drop first day_on) [] at)
      go zero h = unfold from in refl
      go (suc zero) h = unfold from in refl
      go (suc (suc zero)) h = unfold from in refl
      go (suc (suc (suc zero))) h = unfold from in refl
      go (suc (suc (suc (suc k)))) h = absurd (omega arith)

  pub first_fixed : at < length s → clock_read (fill (drop first day_on) (drop at s) at) ≡ clock_read (from (drop first day_on) (drop at s) at)
  first_fixed h =
      ap clock_read (sym (from_some (drop first day_on) (drop at s) at (simp length-drop (omega arith)) (simp length-drop (omega arith))))

-- ---- the unit that the argument begins with

pub no_clock : (a : List ℕ) → length a ≡ 0 → from hour_on a 0 ≡ clock_of a
unfolding clock_of
no_clock [] h = refl
no_clock (b ∷ l) h = absurd (omega arith)

some_clock : (a : List ℕ) → (length a ≡ 0 → ⊥)
    → clock_of a
    ≡ cond (eqb (get_or a 0 0) 68) (from day_on (drop 1 a) 1)
    (cond (eqb (get_or a 0 0) 104) (from hour_on (drop 1 a) 1)
    (cond (eqb (get_or a 0 0) 109) (from minute_on (drop 1 a) 1)
    (cond (eqb (get_or a 0 0) 115) (from second_on (drop 1 a) 1) (from hour_on a 0))))
unfolding clock_of
some_clock [] h = absurd (h refl)
some_clock (b ∷ l) h = refl

module _ (a : List ℕ) (some : length a ≡ 0 → ⊥) where
  pub at_day : get_or a 0 0 ≡ 68 → from day_on (drop 1 a) 1 ≡ clock_of a
  at_day e = sym (some_clock a some ∙ rw e)

  pub at_hour : get_or a 0 0 ≡ 104 → from hour_on (drop 1 a) 1 ≡ clock_of a
  at_hour e = sym (some_clock a some ∙ rw e)

  pub at_minute : get_or a 0 0 ≡ 109 → from minute_on (drop 1 a) 1 ≡ clock_of a
  at_minute e = sym (some_clock a some ∙ rw e)

  pub at_second : get_or a 0 0 ≡ 115 → from second_on (drop 1 a) 1 ≡ clock_of a
  at_second e = sym (some_clock a some ∙ rw e)

  -- none of the letters, as the `match` tells it
  pub at_digits : (((Unit {0} × (get_or a 0 0 ≡ 68 → ⊥)) × (get_or a 0 0 ≡ 104 → ⊥)) × (get_or a 0 0 ≡ 109 → ⊥)) × (get_or a 0 0 ≡ 115 → ⊥) → from hour_on a 0 ≡ clock_of a
  at_digits n =
      sym (some_clock a some
      ∙ rw (ne_eqb (get_or a 0 0) 68 n.0.0.0.1, ne_eqb (get_or a 0 0) 104 n.0.0.1, ne_eqb (get_or a 0 0) 109 n.0.1, ne_eqb (get_or a 0 0) 115 n.1))

-- ---- what the value says

pub value_says : (x : Said) {c : Clock} → Ok c ≡ clock_read x → Ok (Says (WaitClock c)) ≡ line_from (clock_says x)
unfolding clock_read clock_says line_from cell_for
value_says (good vs) {c} e = let p : c ≡ clock_from vs = cc in ap (λ (v : Clock). Ok (Says (WaitClock v))) p
value_says (bad at) e = let z : ◌≡◌ {A = ℕ} 0 1 = cc in absurd (omega arith)

pub fault_says : (x : Said) {k : ℕ} → Err k ≡ clock_read x → Err BadRest ≡ line_from (clock_says x)
unfolding clock_read clock_says line_from
fault_says (good vs) e = let z : ◌≡◌ {A = ℕ} 0 1 = cc in absurd (omega arith)
fault_says (bad at) e = refl
