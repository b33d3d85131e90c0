-- One statement: what the box does with a cell is what the script does with its statement. Assumes nothing.
use mathlib.Core.Path.{◌≡◌, refl, sym, ap, subst}
use mathlib.Core.Bool.{Bool, true, false, cond}
use mathlib.Core.List.{List, [], ◌∷◌}
use Prim.Native.Nat.{ℕ, suc, ◌+◌, ◌≤◌, ◌<◌}
use native.Mathlib.Decide.{ℕ_discrete, dec_lt}
use native.Mathlib.Omega.{arith}
use lib.ListN.{length, get_or, set, take, drop, length-take, length-drop}
use lib.Seq.{slice, get_or-set_same, get_or-set_other, set-get_or}
use lib.Dec.{leb, eqb}
use borrow.Author.Tests.{leb-true, eq-eqb, ne_eqb}
use Rattle.reader.proofs.Tests.{true_is_false}
use Rattle.language.specs.declared.Span.{Span}
use Rattle.language.specs.declared.Cell.{Cell}
use Rattle.language.specs.declared.Cell.TheVariants.{Nothing, Send, Loop, End, WaitTime, WaitData, WaitByte, WaitClock, WaitSignal, Rts, Log, Fchange, Pause, Resume, Nop, Unknown}
use Rattle.language.specs.Limits.{lines_limit, data_limit, loop_limit}
use Rattle.language.specs.Script.{Statement, wait_data, log}
use Rattle.running.specs.Joined.{awaits, nothing}
use Rattle.language.specs.Cell.{decoded}
use Rattle.language.specs.Table.{data_at, statement_of}
use Rattle.process.specs.declared.Wait.{Wait}
use Rattle.process.specs.declared.Wait.TheVariants.{Ticks, Bytes, Data, ClockValue, Signal}
use Rattle.process.specs.declared.Process.{Process}
use Rattle.process.specs.Waiting.{same_level}
use Rattle.statement.specs.Ways.{astray}
use Rattle.statement.specs.Joining.{neighbours, their_bytes}
use Rattle.statement.specs.Moving as moving
use Rattle.statement.specs.Moving.{goes_on, rests_at, rests, rests_unless, signalled, after_place, moved_by}
use Rattle.record.specs.Logging.{record_of, next_count}
use Rattle.statement.specs.declared.outcome.Outcome.TheVariants.{Recorded}
use Rattle.statement.specs.Saying.{outcome_of, paused_by, counted_by}
use Rattle.runner.specs.Writing.{writes_for}
use Rattle.bounded.proofs.Moves.{Own}
use Rattle.running.specs.Running as script
use Rattle.running.specs.Running.{Box, for_nothing, for_ticks, for_bytes, for_data, for_signal, on, unless_zero, unless_holds, does}
use Rattle.running.proofs.Matches.{at_first_lem}
use Rattle.running.proofs.From.{from, from_one, from_data, from_shorter}
use Rattle.running.proofs.WaysAgree.{moves, passes_on, rests_on, either, opens_on, closes_on}
use Rattle.running.proofs.Alike.{Waits, Related}

-- what a process of the box comes to by its cell c, and what the script's comes to by the statement at its front
pub record Does (cells pool : List ℕ) (first end : ℕ) (counts : List ℕ) (b : Box) (p : Process) (q : script.Process) (c : Cell) : Type 0 where
  pub statement : Statement
  pub coming : List Statement
  pub front : from cells pool end p.place ≡ statement ∷ coming
  pub process : Related cells pool first end (set counts p.place (counted_by (get_or counts p.place 0) c)) (moved_by cells b.levels p c).process
      (does b q coming statement).process
  pub paused : paused_by b.paused c ≡ (does b q coming statement).paused
  pub bytes : writes_for pool b.reading (get_or counts p.place 0) c ≡ (does b q coming statement).bytes
  pub says : outcome_of (length (writes_for pool b.reading (get_or counts p.place 0) c)) c ≡ (does b q coming statement).says

module _ (cells pool : List ℕ) (first end : ℕ) (own : Own cells pool end) (long : data_limit ≤ length pool) (counts : List ℕ) (b : Box) (p : Process) (q : script.Process)
    (r : Related cells pool first end counts p q) (low : first ≤ p.place) (live : p.place < end) (few : p.depth ≤ loop_limit)
    (left : length p.left ≡ loop_limit) (back : length p.back ≡ loop_limit) (many : length counts ≡ lines_limit) where
  abbrev i : ℕ
  i = p.place

  abbrev to : ℕ → List Statement
  to j = from cells pool end j

  abbrev Alike : Process → script.Process → Type 0
  Alike = Related cells pool first end counts

  -- on to the next statement; or to a wait, unless a test says on
  over : Alike (goes_on p).process (on q (to (i + 1)) for_nothing)
  over = passes_on cells pool first end own.inside counts p q r few left back

  rests_unless_lem : (t : Bool) (w : Wait) (v : script.Wait) → Waits pool (to (i + 1)) w v → Alike (cond t (goes_on p) (rests p w)).process (on q (to (i + 1)) (cond t for_nothing v))
  rests_unless_lem = either cells pool first end own.inside counts p q r few left back

  -- ---- a wait for data, and its neighbours with it

  abbrev words : List ℕ
  words = slice (i + 1) end cells

  data_on : (s : Span) → (moving.awaits p s (neighbours words) (their_bytes words)).found ≡ true →
      Alike (moving.awaits p s (neighbours words) (their_bytes words)).process
      (on q (to (i + 1 + neighbours words)) (for_data (take (s.count + their_bytes words) (drop s.from pool)) []))
  unfolding moving.awaits
  data_on s = go (leb (s.from + (s.count + their_bytes words)) data_limit) refl
    where
      go : (t : Bool) → leb (s.from + (s.count + their_bytes words)) data_limit ≡ t →
          (cond t (rests_at p (i + 1 + neighbours words) (Data (record { from = s.from; count = s.count + their_bytes words; matched = 0 }))) (astray p)).found ≡ true →
          Alike (cond t (rests_at p (i + 1 + neighbours words) (Data (record { from = s.from; count = s.count + their_bytes words; matched = 0 }))) (astray p)).process
          (on q (to (i + 1 + neighbours words)) (for_data (take (s.count + their_bytes words) (drop s.from pool)) []))
      go true e f =
          let room : s.from + (s.count + their_bytes words) ≤ data_limit = leb-true _ _ e in
          moves cells pool first end own.inside counts p q r few left back (i + 1 + neighbours words) p.depth p.left p.back (Data (record { from = s.from; count = s.count + their_bytes words; matched = 0 })) q.loops _ r.loops
          (record { seen = []; waits = refl; matched = sym (at_first_lem _); sized = simp (length-take, length-drop) (omega arith) })
      go false e f = true_is_false (sym f)

  -- ---- LOG

  abbrev place_count : ℕ
  place_count = get_or counts i 0

  -- a LOG statement is one statement by itself
  log_one : (j : ℕ) (z : Span) → j < end → decoded (get_or cells j 0) ≡ Log z → length (to j) ≡ suc (length (to (j + 1)))
  unfolding statement_of awaits
  log_one j z h e = ap length (from_one cells pool end own.inside j h (rw e))

  log_on : (s : Span) → decoded (get_or cells i 0) ≡ Log s →
      Related cells pool first end (set counts i (next_count place_count)) (goes_on p).process (script.logged q (to (i + 1)))
  unfolding script.logged statement_of awaits
  log_on s e = record {
    ends = over.ends;
    coming = refl;
    loops = r.loops;
    wait = over.wait;
    counted = λ j z l h g. own_count j z l h g (ℕ_discrete j i);
  }
    where
      apart : (j : ℕ) → (j ≡ i → ⊥) → (i < j → length (to (j + 1)) < length (to (i + 1))) → (j < i → length (to (i + 1)) < length (to (j + 1))) →
          length (to (j + 1)) ≡ length (to (i + 1)) → ⊥
      apart j k less more same = elim (dec_lt i j) [ yes d ↦ omega (arith, less d) | no d ↦ let l : j < i = omega arith in omega (arith, more l) ]

      own_count : (j : ℕ) (z : Span) → first ≤ j → j < end → decoded (get_or cells j 0) ≡ Log z → Dec (j ≡ i) →
          cond (eqb (length (to (j + 1))) (length (to (i + 1)))) (next_count (q.counts (length (to (j + 1))))) (q.counts (length (to (j + 1))))
          ≡ get_or (set counts i (next_count place_count)) j 0
      own_count j z l h g (yes k) =
          rw (k, eq-eqb (length (to (i + 1))) (length (to (i + 1))) refl, get_or-set_same counts i (next_count place_count) 0 (omega (arith, own.small)))
          (ap next_count (r.counted i s low live e))
      own_count j z l h g (no k) =
          let less : i < j → length (to (j + 1)) < length (to (i + 1)) = λ (d : i < j). omega (arith, log_one j z h g, from_shorter cells pool end own.inside (i + 1) j (omega arith)) in
          let more : j < i → length (to (i + 1)) < length (to (j + 1)) = λ (d : j < i). omega (arith, log_one i s live e, from_shorter cells pool end own.inside (j + 1) i (omega arith)) in
          rw (ne_eqb (length (to (j + 1))) (length (to (i + 1))) (apart j k less more), get_or-set_other counts i j (next_count place_count) 0 k) (r.counted j z l h g)

  -- ---- by the cell

  -- a statement that is no wait for data, and no LOG: the counts stay
  by_one : (c : Cell) → decoded (get_or cells i 0) ≡ c → awaits (statement_of pool c) ≡ nothing → counted_by place_count c ≡ place_count →
      Alike (moved_by cells b.levels p c).process (does b q (to (i + 1)) (statement_of pool c)).process →
      paused_by b.paused c ≡ (does b q (to (i + 1)) (statement_of pool c)).paused →
      writes_for pool b.reading place_count c ≡ (does b q (to (i + 1)) (statement_of pool c)).bytes →
      outcome_of (length (writes_for pool b.reading place_count c)) c ≡ (does b q (to (i + 1)) (statement_of pool c)).says →
      Does cells pool first end counts b p q c
  by_one c e a n m x y z = record {
    statement = statement_of pool c;
    coming = to (i + 1);
    front = rw e at (from_one cells pool end own.inside i live (rw e a));
    process = rw (n, set-get_or counts i 0) m;
    paused = x;
    bytes = y;
    says = z;
  }

  data_cell : (s : Span) → decoded (get_or cells i 0) ≡ WaitData s → (moved_by cells b.levels p (WaitData s)).found ≡ true → Does cells pool first end counts b p q (WaitData s)
  unfolding statement_of counted_by moved_by does paused_by writes_for outcome_of
  data_cell s e f =
      let d : List ℕ = take (s.count + their_bytes words) (drop s.from pool) in
      let same : after_place cells p ≡ words = ap (λ (x : ℕ). slice (i + 1) x cells) r.ends in
      let fits = own.fits i live in
      let m : Alike (moving.awaits p s (neighbours (after_place cells p)) (their_bytes (after_place cells p))).process (on q (to (i + 1 + neighbours words)) (for_data d [])) =
      subst
      (λ (ws : List ℕ). (moving.awaits p s (neighbours ws) (their_bytes ws)).found ≡ true →
      Alike (moving.awaits p s (neighbours ws) (their_bytes ws)).process (on q (to (i + 1 + neighbours words)) (for_data d [])))
      (sym same) (data_on s) f
      in
      record {
        statement = wait_data d;
        coming = to (i + 1 + neighbours words);
        front = from_data cells pool end own.inside i fits.from s live fits.fit e;
        process = rw (set-get_or counts i 0) m;
        paused = refl;
        bytes = refl;
        says = refl;
      }

  log_cell : (s : Span) → decoded (get_or cells i 0) ≡ Log s → Does cells pool first end counts b p q (Log s)
  unfolding statement_of awaits counted_by moved_by does paused_by writes_for outcome_of
  log_cell s e =
      let count : place_count ≡ q.counts (length (to (i + 1))) = sym (r.counted i s low live e) in
      record {
        statement = log (data_at pool s);
        coming = to (i + 1);
        front = rw e at (from_one cells pool end own.inside i live (rw e));
        process = log_on s e;
        paused = refl;
        bytes = ap (λ (n : ℕ). record_of b.reading n (data_at pool s)) count;
        says = ap (λ (n : ℕ). Recorded (record { bytes = length (record_of b.reading n (data_at pool s)) })) count;
      }

  pub by_cell : (c : Cell) → decoded (get_or cells i 0) ≡ c → (moved_by cells b.levels p c).found ≡ true → Does cells pool first end counts b p q c
  unfolding statement_of awaits counted_by moved_by does paused_by writes_for outcome_of rests_unless unless_zero unless_holds signalled
  by_cell Nothing e f = true_is_false (sym f)
  by_cell (Send s) e f = by_one (Send s) e refl refl over refl refl refl
  by_cell (Loop n) e f = by_one (Loop n) e refl refl (opens_on cells pool first end own.inside counts p q r few left back n f) refl refl refl
  by_cell End e f = by_one End e refl refl (closes_on cells pool first end own.inside counts p q r few left back f) refl refl refl
  by_cell (WaitTime n) e f = by_one (WaitTime n) e refl refl (rests_unless_lem (eqb n 0) (Ticks n) (for_ticks n) refl) refl refl refl
  by_cell (WaitData s) e f = data_cell s e f
  by_cell (WaitByte n) e f = by_one (WaitByte n) e refl refl (rests_unless_lem (eqb n 0) (Bytes n) (for_bytes n) refl) refl refl refl
  by_cell (WaitClock c) e f = by_one (WaitClock c) e refl refl (rests_on cells pool first end own.inside counts p q r few left back (ClockValue c) _ refl) refl refl refl
  by_cell (WaitSignal l) e f =
      by_one (WaitSignal l) e refl refl (rests_unless_lem (same_level l.on (get_or b.levels l.signal false)) (Signal l) (for_signal l.signal l.on) refl) refl refl refl
  by_cell (Rts is) e f = by_one (Rts is) e refl refl over refl refl refl
  by_cell (Log s) e f = log_cell s e
  by_cell Fchange e f = by_one Fchange e refl refl over refl refl refl
  by_cell Pause e f = by_one Pause e refl refl over refl refl refl
  by_cell Resume e f = by_one Resume e refl refl over refl refl refl
  by_cell Nop e f = by_one Nop e refl refl over refl refl refl
  by_cell Unknown e f = true_is_false (sym f)
