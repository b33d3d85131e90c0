-- One statement of the runner, on a process whose own cells fit: it is found in the table, and leaves the process within its bounds. Assumes nothing.
use mathlib.Core.Path.{◌≡◌, refl, sym, subst, ◌∙◌}
use mathlib.Core.Bool.{Bool, true, false, cond}
use mathlib.Core.List.{List, ◌∷◌}
use Prim.Native.Nat.{ℕ, zero, suc, ◌+◌, ◌≤◌, ◌<◌}
use native.Mathlib.Nat.{le_trans}
use native.Mathlib.Numerals.{add-one}
use native.Mathlib.Omega.{arith}
use lib.Dec.{ltb, leb}
use lib.ListN.{length, get_or, take, drop}
use lib.Seq.{slice, slice-cons, length-slice, get_or-take, length-take-le, drop-drop}
use borrow.Author.Tests.{eqb-true, lt-ltb, le-leb, ne_eqb}
use Rattle.reader.proofs.Tests.{both_left, both, true_is_false, by_cases}
use Rattle.figures.specs.Flat.{Mark, plain, sure_rest}
use Rattle.figures.specs.Inside.Scan.{read_at, MarkAt}
use Rattle.figures.specs.Written.{run}
use Rattle.figures.proofs.Scanning.{stands_map}
use Rattle.language.specs.declared.Span.{Span}
use Rattle.language.specs.declared.Level.{Level}
use Rattle.language.specs.declared.Cell.{Cell}
use Rattle.language.specs.declared.Cell.TheVariants.{Nothing, Send, Loop, End, WaitTime, WaitData, WaitByte, WaitClock, WaitSignal, Rts, Log, Fchange, Pause, Resume, Nop, Unknown}
use Rattle.language.specs.Limits.{lines_limit, data_limit}
use Rattle.language.specs.Cell.{decoded}
use Rattle.language.specs.Stretch.{mark_of}
use Rattle.language.specs.Table.{statement_of}
use Rattle.stretch.specs.Marks.{cell_mark, word_mark, marks_between, marks_to}
use Rattle.stretch.proofs.Marking.{marks_between_lem, marks_length}
use Rattle.accepted.specs.Inside.Cells as tests
use Rattle.accepted.specs.Inside.Cells.{follows, cell_fits, words_fit, words_end}
use Rattle.process.specs.declared.Wait.{Wait}
use Rattle.process.specs.declared.Wait.TheVariants.{Ticks, Bytes, Data, ClockValue, Signal}
use Rattle.process.specs.declared.Process.{Process}
use Rattle.process.specs.Waiting.{ready, wait_right, progress_right, same_level}
use Rattle.statement.specs.Joining.{neighbours, their_bytes}
use Rattle.statement.specs.Moving.{goes_on, rests, awaits, rests_unless, signalled, moved_by, moved}
use Rattle.bounded.proofs.Ahead.{Open, onward, ahead}
use Rattle.bounded.proofs.Held.{Sits, resting, Held, Good}
use Rattle.bounded.proofs.Ways.{rests_good}
use Rattle.bounded.proofs.Statements.{loops, counts, passes_good, waits_good, sure_sits, sure_ahead, rest_good, opened_good, closed_good}
use Rattle.bounded.proofs.Joining.{Skips, neighbours_skip, neighbours_few, bytes_together, waits_some}

-- words that say statements, whose data lie in the pool one after the other, from a place on
pub record Fits (pool ws : List ℕ) : Type 0 where
  pub from : ℕ
  pub fit : words_fit pool from ws ≡ true
  pub within : words_end from ws ≤ data_limit

-- the cells of a process that ends at `end`, read from any of its places on
pub record Own (cells pool : List ℕ) (end : ℕ) : Type 0 where
  pub inside : end ≤ length cells
  pub small : end ≤ lines_limit
  pub fits : (i : ℕ) → i < end → Fits pool (slice i end cells)

-- ---- over some sure rests

module _ (ms : List Mark) (first a b : ℕ) (os : List Open) (s : Skips (drop a ms) (drop b ms)) where
  skipped_sits : a ≤ b → b ≤ length ms → Sits ms first a os → Sits ms first b os
  skipped_sits l e h = record { nested = s.nested (length os) ∙ h.nested; few = h.few; low = omega (arith, h.low); high = e; kept = rw s.behind h.kept }

  skipped_ahead : (k : ℕ) → ((m : ℕ) → run 0 (ahead ms m (read_at ms a) os) ≤ k) → (m : ℕ) → run 0 (ahead ms m (read_at ms b) os) ≤ k
  skipped_ahead k h m = rw s.behind (le_trans (s.less m (onward ms m _ os)) (h m))

module _ (cells pool : List ℕ) (first end k n : ℕ) (own : Own cells pool end) (levels : List Bool) (p : Process)
    (h : Held (marks_to cells end) first k n p) (r : ready p ≡ true) where
  abbrev ms : List Mark
  ms = marks_to cells end

  ends : p.end ≡ end
  ends = h.ends ∙ marks_length cells end own.inside

  live : p.place < end
  live = omega (arith, h.fine.live r, marks_length cells end own.inside)

  -- ---- the ways on by the mark

  zero_waits : (a : ℕ) (w : Wait) → resting w ≡ true → wait_right w ≡ true → MarkAt ms p.place (cond (ltb 0 a) sure_rest plain) → Good ms first k (suc n) (rests_unless p a w)
  unfolding rests_unless
  zero_waits zero w e q s = passes_good ms first k n p h r s
  zero_waits (suc a) w e q s = rw (ne_eqb (suc a) 0 (omega arith)) (rest_good ms first k n p h r (rw (lt-ltb 0 (suc a) (omega arith)) at s) w e q)

  signal_waits : (l : Level) → MarkAt ms p.place plain → Good ms first k (suc n) (signalled p levels l)
  unfolding signalled
  signal_waits l s =
      by_cases (Good ms first k (suc n)) (same_level l.on (get_or levels l.signal false)) (goes_on p) (rests p (Signal l))
      (λ e. passes_good ms first k n p h r s) (λ e. waits_good ms first k n p h r s (Signal l) refl refl)

  -- ---- a wait for data, and its neighbours with it

  abbrev words : List ℕ
  words = slice (p.place + 1) end cells

  over_neighbours : Skips (drop (p.place + 1) ms) (drop (p.place + 1 + neighbours words) ms)
  unfolding marks_between
  over_neighbours =
      rw (marks_between_lem cells end (p.place + 1), marks_between_lem cells end (p.place + 1 + neighbours words), ← drop-drop (neighbours words) (p.place + 1) (take end cells))
      (neighbours_skip words)

  data_waits : (s : Span) → s.from + (s.count + their_bytes words) ≤ data_limit → 1 ≤ s.count → MarkAt ms p.place sure_rest →
      Good ms first k (suc n) (awaits p s (neighbours words) (their_bytes words))
  unfolding awaits progress_right
  data_waits s l some m =
      let a : ℕ = p.place + 1 in
      let b : ℕ = p.place + 1 + neighbours words in
      let long : b ≤ length ms =
      omega (arith, neighbours_few words, length-slice (p.place + 1) end cells own.inside, marks_length cells end own.inside, live)
      in
      rw (le-leb (s.from + (s.count + their_bytes words)) data_limit l)
      (rests_good ms first k p h.ends (suc n) b (Data (record { from = s.from; count = s.count + their_bytes words; matched = 0 })) refl
      (both (leb (s.from + (s.count + their_bytes words)) data_limit) _ (le-leb (s.from + (s.count + their_bytes words)) data_limit l)
      (lt-ltb 0 (s.count + their_bytes words) (omega arith)))
      h.left h.back (counts ms first k n p h r) (omega (arith, h.fine.sits.low))
      (skipped_sits ms first a b (loops ms first k n p h r) over_neighbours (omega arith) long (sure_sits ms first k n p h r m))
      (skipped_ahead ms first a b (loops ms first k n p h r) over_neighbours k (sure_ahead ms first k n p h r m)))

  -- ---- by the cell

  by_cell : (from : ℕ) (c : Cell) → cell_fits pool from c ≡ true → words_end (from + tests.bytes_of_cell c) words ≤ data_limit →
      ((s : Span) → c ≡ WaitData s → 1 ≤ s.count) → MarkAt ms p.place (cell_mark c) → Good ms first k (suc n) (moved_by cells levels p c)
  unfolding cell_fits cell_mark mark_of statement_of moved_by tests.bytes_of_cell follows
  by_cell from Nothing f l some m = true_is_false (sym f)
  by_cell from (Send s) f l some m = passes_good ms first k n p h r m
  by_cell from (Loop a) f l some m = opened_good ms first k n p h r a m
  by_cell from End f l some m = closed_good ms first k n p h r m
  by_cell from (WaitTime a) f l some m = zero_waits a (Ticks a) refl refl m
  by_cell from (WaitData s) f l some m =
      subst (λ (e : ℕ). Good ms first k (suc n) (awaits p s (neighbours (slice (p.place + 1) e cells)) (their_bytes (slice (p.place + 1) e cells)))) (sym ends)
      (data_waits s (omega (arith, bytes_together words (from + s.count), eqb-true s.from from (both_left (follows from s) _ f))) (some s refl) m)
  by_cell from (WaitByte a) f l some m = zero_waits a (Bytes a) refl refl m
  by_cell from (WaitClock c) f l some m = rest_good ms first k n p h r m (ClockValue c) refl refl
  by_cell from (WaitSignal l') f l some m = signal_waits l' m
  by_cell from (Rts on) f l some m = passes_good ms first k n p h r m
  by_cell from (Log s) f l some m = passes_good ms first k n p h r m
  by_cell from Fchange f l some m = passes_good ms first k n p h r m
  by_cell from Pause f l some m = passes_good ms first k n p h r m
  by_cell from Resume f l some m = passes_good ms first k n p h r m
  by_cell from Nop f l some m = passes_good ms first k n p h r m
  by_cell from Unknown f l some m = true_is_false (sym f)

  stands_here : MarkAt ms p.place (word_mark (get_or cells p.place 0))
  stands_here =
      rw (← get_or-take end cells p.place 0 live) (stands_map word_mark (take end cells) p.place 0 (omega (arith, length-take-le end cells own.inside, live)))

  -- THE LAW: a process that is ready does its statement, is not answered 25, and is within its bounds afterwards
  pub moved_good : Good ms first k (suc n) (moved cells levels p)
  unfolding moved words_fit words_end
  moved_good =
      let w : ℕ = get_or cells p.place 0 in
      let f = own.fits p.place live in
      let parts : slice p.place end cells ≡ w ∷ words = slice-cons p.place end cells 0 live own.inside ∙ rw (add-one p.place) in
      let fit = rw parts at f.fit in
      let within = rw parts at f.within in
      rw (lt-ltb p.place lines_limit (omega (arith, live, own.small)), lt-ltb p.place p.end (omega (arith, live, ends)))
      (by_cell f.from (decoded w) (both_left (cell_fits pool f.from (decoded w)) _ fit) within (waits_some w) stands_here)
