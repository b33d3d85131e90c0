-- THE WORD OF A CELL IS READ BACK, for every cell that a line can have; and every word is the word of such a cell or is Unknown.
-- Assumes nothing.
use Prim.Native.Nat.{ℕ, zero, suc, ◌+◌, ◌*◌, ◌/◌, ◌%◌, ◌≤◌, ◌<◌}
use mathlib.Core.Path.{◌≡◌, refl, sym, ◌∙◌}
use mathlib.Core.Bool.{Bool, true, false, cond, ◌&&◌, ◌||◌}
use mathlib.Core.Logic.{◌⊎◌, inl, inr, ⊎_elim}
use native.Mathlib.Omega.{arith}
use lib.Dec.{leb, eqb}
use borrow.Author.Tests.{leb-true, ltb-true, eqb-true, lt-ltb, le-leb}
use Rattle.reader.proofs.Tests.{both_left, both_right, by_cases, true_is_false}
use Rattle.language.specs.declared.Span.{Span}
use Rattle.language.specs.declared.Clock.{Clock}
use Rattle.language.specs.declared.Cell.{Cell}
use Rattle.language.specs.declared.Cell.TheVariants.{Nothing, Send, Loop, End, WaitTime, WaitData, WaitByte, WaitClock, WaitSignal, Rts, Log, Fchange, Pause, Resume, Nop, Unknown}
use Rattle.language.specs.Limits.{data_limit, send_room, wait_room, log_room}
use Rattle.language.specs.Clock.{Range, range, within}
use Rattle.language.specs.Right.{time_right}
use Rattle.language.specs.Cell.{level, bit, kind_of, span_number, clock_number, argument_of, coded, span_right, unit_right, fixed_right, or_unknown, span_of, clock_of_number, cell_of, decoded}
use Rattle.language.specs.Inside.Right.{cell_right}

bit_small : (b : Bool) → bit b < 2
bit_small true = omega arith
bit_small false = omega arith

-- a word's kind and argument
kind_back : (k a : ℕ) → (k * 67108864 + a % 67108864) / 67108864 ≡ k
kind_back k a = omega arith

argument_back : (k a : ℕ) → a < 67108864 → (k * 67108864 + a % 67108864) % 67108864 ≡ a
argument_back k a h = omega arith

pub decoded_is : (c : Cell) → argument_of c < 67108864 → decoded (coded c) ≡ cell_of (kind_of c) (argument_of c)
unfolding decoded coded
decoded_is c h = rw (kind_back (kind_of c) (argument_of c), argument_back (kind_of c) (argument_of c) h)

-- ---- data

pub record SpanFits (low high : ℕ) (s : Span) : Type 0 where
  pub least : low ≤ s.count
  pub most : s.count ≤ high
  pub inside : s.from + s.count ≤ data_limit

pub span_fits : (low high : ℕ) (s : Span) → span_right low high s ≡ true → SpanFits low high s
unfolding span_right
span_fits low high s h =
    let r = both_right (leb low s.count) _ h in
    record {
      least = leb-true low s.count (both_left (leb low s.count) _ h);
      most = leb-true s.count high (both_left (leb s.count high) _ r);
      inside = leb-true (s.from + s.count) data_limit (both_right (leb s.count high) _ r);
    }

span_small : (low high : ℕ) (s : Span) → high < 128 → span_right low high s ≡ true → span_number s < 67108864
unfolding span_number
span_small low high s l h = omega (arith, span_fits low high s h)

span_back : (low high : ℕ) (s : Span) → high < 128 → span_right low high s ≡ true → span_of (span_number s) ≡ s
unfolding span_number
span_back low high s l h =
    let f = span_fits low high s h in
    let a : (s.from * 128 + s.count) / 128 ≡ s.from = omega arith in
    let b : (s.from * 128 + s.count) % 128 ≡ s.count = omega arith in
    rw (a, b)

-- ---- clock values

unit_high : (fixed : Bool) (r : Range) (v : ℕ) → unit_right fixed r v ≡ true → v ≤ r.high
unfolding unit_right within
unit_high true r v h = leb-true v r.high (both_right (leb r.low v) _ h)
unit_high false r v h = omega (arith, eqb-true v 0 h)

record ClockFits (c : Clock) : Type 0 where
  fixed : c.fixed ≤ 4
  day : c.day ≤ 31
  hour : c.hour ≤ 23
  minute : c.minute ≤ 59
  second : c.second ≤ 59

clock_fits : (c : Clock) → fixed_right c ≡ true → ClockFits c
unfolding fixed_right
clock_fits c h =
    let a = both_right (leb c.fixed 4) _ h in
    let b = both_right (unit_right (leb 4 c.fixed) (range 1 31) c.day) _ a in
    let d = both_right (unit_right (leb 3 c.fixed) (range 0 23) c.hour) _ b in
    record {
      fixed = leb-true c.fixed 4 (both_left (leb c.fixed 4) _ h);
      day = unit_high _ (range 1 31) c.day (both_left _ _ a);
      hour = unit_high _ (range 0 23) c.hour (both_left _ _ b);
      minute = unit_high _ (range 0 59) c.minute (both_left _ _ d);
      second = unit_high (leb 1 c.fixed) (range 0 59) c.second (both_right (unit_right (leb 2 c.fixed) (range 0 59) c.minute) _ d);
    }

clock_small : (c : Clock) → fixed_right c ≡ true → clock_number c < 67108864
unfolding clock_number
clock_small c h = omega (arith, clock_fits c h)

clock_back : (c : Clock) → fixed_right c ≡ true → clock_of_number (clock_number c) ≡ c
unfolding clock_number
clock_back c h =
    let f = clock_fits c h in
    let n : ℕ = c.fixed * 4194304 + (c.day * 131072 + (c.hour * 4096 + (c.minute * 64 + c.second))) in
    let m : n / 64 ≡ c.fixed * 65536 + (c.day * 2048 + (c.hour * 64 + c.minute)) = omega (arith, f.second) in
    let o : n / 4096 ≡ c.fixed * 1024 + (c.day * 32 + c.hour) = omega (arith, f.second, f.minute) in
    let d : n / 131072 ≡ c.fixed * 32 + c.day = omega (arith, f.second, f.minute, f.hour) in
    let e₁ : n / 4194304 ≡ c.fixed = omega (arith, f.second, f.minute, f.hour, f.day) in
    let e₂ : n / 131072 % 32 ≡ c.day = rw d (omega (arith, f.day)) in
    let e₃ : n / 4096 % 32 ≡ c.hour = rw o (omega (arith, f.hour)) in
    let e₄ : n / 64 % 64 ≡ c.minute = rw m (omega (arith, f.minute)) in
    let e₅ : n % 64 ≡ c.second = omega (arith, f.second) in
    rw (e₁, e₂, e₃, e₄, e₅)

-- ---- every cell

time_small : (n : ℕ) → time_right n ≡ true → n < 67108864
unfolding time_right
time_small n h = go (leb n 60000) refl h
  where
    go : (t : Bool) → leb n 60000 ≡ t → (t || (eqb (n % 1000) 0 && leb n 60000000)) ≡ true → n < 67108864
    go true e r = omega (arith, leb-true n 60000 e)
    go false e r = omega (arith, leb-true n 60000000 (both_right (eqb (n % 1000) 0) _ r))

small : (c : Cell) → cell_right c ≡ true → argument_of c < 67108864
unfolding cell_right
small Nothing h = omega arith
small (Send s) h = span_small 0 send_room s (omega arith) h
small (Loop n) h = omega (arith, leb-true n 60000 h)
small End h = omega arith
small (WaitTime n) h = time_small n h
small (WaitData s) h = span_small 1 wait_room s (omega arith) h
small (WaitByte n) h = omega (arith, leb-true n 60000 h)
small (WaitClock c) h = clock_small c h
small (WaitSignal l) h = omega (arith, leb-true l.signal 4 h, bit_small l.on)
small (Rts on) h = omega (arith, bit_small on)
small (Log s) h = span_small 0 log_room s (omega arith) h
small Fchange h = omega arith
small Pause h = omega arith
small Resume h = omega arith
small Nop h = omega arith
small Unknown h = omega arith

signal_back : (n : ℕ) (on : Bool) → n ≤ 4 → cell_of 8 (n * 2 + bit on) ≡ WaitSignal (level n on)
unfolding cell_of
signal_back n true h =
    let a : (n * 2 + 1) / 2 ≡ n = omega arith in
    let b : (n * 2 + 1) % 2 ≡ 1 = omega arith in
    let l : n * 2 + 1 < 10 = omega arith in
    rw (lt-ltb (n * 2 + 1) 10 l, a, b)
signal_back n false h =
    let a : (n * 2 + 0) / 2 ≡ n = omega arith in
    let b : (n * 2 + 0) % 2 ≡ 0 = omega arith in
    let l : n * 2 + 0 < 10 = omega arith in
    rw (lt-ltb (n * 2 + 0) 10 l, a, b)

-- the cell that its kind and argument say
kinds_back : (c : Cell) → cell_right c ≡ true → cell_of (kind_of c) (argument_of c) ≡ c
unfolding cell_right cell_of
kinds_back Nothing h = refl
kinds_back (Send s) h = rw (span_back 0 send_room s (omega arith) h, h)
kinds_back (Loop n) h = rw h
kinds_back End h = refl
kinds_back (WaitTime n) h = rw h
kinds_back (WaitData s) h = rw (span_back 1 wait_room s (omega arith) h, h)
kinds_back (WaitByte n) h = rw h
kinds_back (WaitClock c) h = rw (clock_back c h, h)
kinds_back (WaitSignal l) h = signal_back l.signal l.on (leb-true l.signal 4 h)
kinds_back (Rts true) h = refl
kinds_back (Rts false) h = refl
kinds_back (Log s) h = rw (span_back 0 log_room s (omega arith) h, h)
kinds_back Fchange h = refl
kinds_back Pause h = refl
kinds_back Resume h = refl
kinds_back Nop h = refl
kinds_back Unknown h = true_is_false (sym h)

pub decode_code : (c : Cell) → cell_right c ≡ true → decoded (coded c) ≡ c
decode_code c h = decoded_is c (small c h) ∙ kinds_back c h

-- ---- every word

-- a cell that a line can have, with its kind and argument; or none
abbrev pub Told : ℕ → ℕ → Cell → Type 0
Told k a c = (c ≡ Unknown) ⊎ ((cell_right c ≡ true) × (kind_of c ≡ k) × (argument_of c ≡ a))

span_number_lem : (a : ℕ) → span_number (span_of a) ≡ a
unfolding span_number
span_number_lem a = omega arith

clock_number_lem : (a : ℕ) → clock_number (clock_of_number a) ≡ a
unfolding clock_number
clock_number_lem a =
    let d : a / 131072 ≡ a / 4194304 * 32 + a / 131072 % 32 = omega arith in
    let o : a / 4096 ≡ a / 131072 * 32 + a / 4096 % 32 = omega arith in
    let m : a / 64 ≡ a / 4096 * 64 + a / 64 % 64 = omega arith in
    omega arith

flag_number : (a : ℕ) → a < 2 → bit (eqb a 1) ≡ a
flag_number zero h = refl
flag_number (suc zero) h = refl
flag_number (suc (suc a)) h = absurd (omega arith)

signal_number : (a : ℕ) → a / 2 * 2 + bit (eqb (a % 2) 1) ≡ a
signal_number a = let e : bit (eqb (a % 2) 1) ≡ a % 2 = flag_number (a % 2) (omega arith) in omega arith

module _ (k a : ℕ) where
  -- the case of a kind, `rest` being the cases after it
  case : (n : ℕ) (t : Bool) (c rest : Cell) → (t ≡ true → (cell_right c ≡ true) × (kind_of c ≡ n) × (argument_of c ≡ a))
      → Told k a rest → Told k a (cond (eqb k n) (or_unknown t c) rest)
  case n t c rest here more =
      by_cases (Told k a) (eqb k n) (or_unknown t c) rest
      (λ e. by_cases (Told k a) t c Unknown (λ h. inr ((here h).0, (here h).1 ∙ sym (eqb-true k n e), (here h).2)) (λ h. inl refl))
      (λ e. more)

  pub cell_told : Told k a (cell_of k a)
  unfolding cell_of cell_right
  cell_told =
      case 0 _ Nothing _ (λ h. (refl, refl, sym (eqb-true a 0 h)))
      (case 1 _ (Send (span_of a)) _ (λ h. (h, refl, span_number_lem a))
      (case 2 _ (Loop a) _ (λ h. (h, refl, refl))
      (case 3 _ End _ (λ h. (refl, refl, sym (eqb-true a 0 h)))
      (case 4 _ (WaitTime a) _ (λ h. (h, refl, refl))
      (case 5 _ (WaitData (span_of a)) _ (λ h. (h, refl, span_number_lem a))
      (case 6 _ (WaitByte a) _ (λ h. (h, refl, refl))
      (case 7 _ (WaitClock (clock_of_number a)) _ (λ h. (h, refl, clock_number_lem a))
      (case 8 _ (WaitSignal (level (a / 2) (eqb (a % 2) 1))) _
      (λ h. (let l : a < 10 = ltb-true a 10 h in le-leb (a / 2) 4 (omega arith), refl, signal_number a))
      (case 9 _ (Rts (eqb a 1)) _ (λ h. (refl, refl, flag_number a (ltb-true a 2 h)))
      (case 10 _ (Log (span_of a)) _ (λ h. (h, refl, span_number_lem a))
      (case 11 _ Fchange _ (λ h. (refl, refl, sym (eqb-true a 0 h)))
      (case 12 _ Pause _ (λ h. (refl, refl, sym (eqb-true a 0 h)))
      (case 13 _ Resume _ (λ h. (refl, refl, sym (eqb-true a 0 h)))
      (case 14 _ Nop Unknown (λ h. (refl, refl, sym (eqb-true a 0 h))) (inl refl)))))))))))))))

-- what decoding answers for every word: Unknown, or a cell that a line can have, whose word it is
pub code_decode : (w : ℕ) → (decoded w ≡ Unknown) ⊎ ((cell_right (decoded w) ≡ true) × (coded (decoded w) ≡ w))
unfolding decoded coded
code_decode w = ⊎_elim inl (λ t. inr (t.0, rw (t.1, t.2) (omega arith))) (cell_told (w / 67108864) (w % 67108864))
