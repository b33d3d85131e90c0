-- What a drain wrote stands at the front of the lent buffer, and no other byte of it is altered. Assumes nothing.
use mathlib.Core.Path.{◌≡◌, refl, sym, ◌∙◌}
use mathlib.Core.Bool.{Bool, true, false, cond}
use mathlib.Core.List.{List, [], ◌++◌}
use Prim.Native.Nat.{ℕ, ◌+◌, ◌≤◌, ◌<◌}
use native.Mathlib.Omega.{arith}
use lib.Dec.{ltb}
use lib.ListN.{length, get_or, take, drop, length-take}
use lib.Seq.{sets, sets-eq, take_at, drop_at}
use borrow.Author.Tests.{ltb-true}
use Rattle.reader.proofs.Tests.{true_is_false}
use Rattle.language.specs.declared.Cell.{Cell}
use Rattle.language.specs.declared.Cell.TheVariants as cell
use Rattle.language.specs.declared.Table.{Table}
use Rattle.language.specs.Limits.{process_limit}
use Rattle.process.specs.declared.Reading.{Reading}
use Rattle.process.specs.declared.State.{State}
use Rattle.process.specs.declared.RunRefusal.TheVariants.{SmallBuffer, BadTable}
use Rattle.record.specs.Logging.{record_of}
use Rattle.statement.specs.Moving.{moved, cell_at}
use Rattle.statement.specs.declared.outcome.Outcome.TheVariants.{Quiet, Refused}
use Rattle.statement.specs.Saying.{outcome_of}
use Rattle.runner.specs.Writing.{writes_for}
use Rattle.runner.specs.Inside.Writing.{OfWord}
use Rattle.runner.proofs.Written.{of_word, sent_fits}
use Rattle.runner.specs.declared.Drained.{Drained}
use Rattle.runner.specs.Draining.{lowest, turn_of, does, writes, unaltered, drained, buffer_after}
use Rattle.runner.specs.Calls as calls
use Rattle.runner.specs.Calls.{Box}
use Rattle.promises.specs.Turns.{told_bytes, DrainWrote}

-- ---- of a statement

-- it writes at most 127 bytes
few : (pool : List ℕ) (r : Reading) (count : ℕ) (c : Cell) → OfWord c → length (writes_for pool r count c) ≤ 127
unfolding writes_for record_of
few pool r count cell.Nothing h = omega arith
few pool r count (cell.Send s) h = omega (arith, sent_fits {s = s} h refl, length-take s.count (drop s.from pool))
few pool r count (cell.Loop n) h = omega arith
few pool r count cell.End h = omega arith
few pool r count (cell.WaitTime n) h = omega arith
few pool r count (cell.WaitData s) h = omega arith
few pool r count (cell.WaitByte n) h = omega arith
few pool r count (cell.WaitClock c) h = omega arith
few pool r count (cell.WaitSignal l) h = omega arith
few pool r count (cell.Rts on) h = omega arith
few pool r count (cell.Log s) h = simp length-take (omega arith)
few pool r count cell.Fchange h = omega arith
few pool r count cell.Pause h = omega arith
few pool r count cell.Resume h = omega arith
few pool r count cell.Nop h = omega arith
few pool r count cell.Unknown h = omega arith

-- and tells how many
tells : (pool : List ℕ) (r : Reading) (count : ℕ) (c : Cell) → told_bytes (outcome_of (length (writes_for pool r count c)) c) ≡ length (writes_for pool r count c)
unfolding writes_for outcome_of
tells pool r count cell.Nothing = refl
tells pool r count (cell.Send s) = refl
tells pool r count (cell.Loop n) = refl
tells pool r count cell.End = refl
tells pool r count (cell.WaitTime n) = refl
tells pool r count (cell.WaitData s) = refl
tells pool r count (cell.WaitByte n) = refl
tells pool r count (cell.WaitClock c) = refl
tells pool r count (cell.WaitSignal l) = refl
tells pool r count (cell.Rts on) = refl
tells pool r count (cell.Log s) = refl
tells pool r count cell.Fchange = refl
tells pool r count cell.Pause = refl
tells pool r count cell.Resume = refl
tells pool r count cell.Nop = refl
tells pool r count cell.Unknown = refl

-- ---- of a drain

told_by : (one found wide : Bool) (s : State) (d : Drained) (w : List ℕ) → told_bytes d.outcome ≡ length w →
    told_bytes (cond one (cond found (cond wide d (unaltered s (Refused SmallBuffer))) (unaltered s (Refused BadTable)))
    (cond wide (unaltered s Quiet) (unaltered s (Refused SmallBuffer)))).outcome
    ≡ length (cond (cond one (cond found wide false) false) w [])
told_by true true true s d w e = e
told_by true true false s d w e = refl
told_by true false wide s d w e = refl
told_by false found true s d w e = refl
told_by false found false s d w e = refl

module _ (w out : List ℕ) where
  set_is : length w ≤ length out → sets out 0 w ≡ w ++ drop (length w) out
  set_is h =
      let z : 0 + length w ≡ length w = omega arith in
      sets-eq w out 0 (omega arith) ∙ rw z

  pub front_by : (u : Bool) → (u ≡ true → length w ≤ length out) → take (length (cond u w [])) (cond u (sets out 0 w) out) ≡ cond u w []
  front_by true h = rw (set_is (h refl)) (take_at w (drop (length w) out) (length w) refl)
  front_by false h = refl

  pub rest_by : (u : Bool) → (u ≡ true → length w ≤ length out) → drop (length (cond u w [])) (cond u (sets out 0 w) out) ≡ drop (length (cond u w [])) out
  rest_by true h = rw (set_is (h refl)) (drop_at w (drop (length w) out) (length w) refl)
  rest_by false h = refl

module _ (t : Table) (b : Box) (out : List ℕ) where
  abbrev wrote : List ℕ
  wrote = writes t.cells t.pool b.state b.counts

  wide : does t.cells b.state (length out) ≡ true → 127 < length out
  unfolding does
  wide e = ltb-true 127 (length out) (go (ltb (lowest b.state.processes) process_limit) (moved t.cells b.state.levels (turn_of b.state)).found _ e)
    where
      go : (u v x : Bool) → cond u (cond v x false) false ≡ true → x ≡ true
      go true true x q = q
      go true false x q = true_is_false (sym q)
      go false v x q = true_is_false (sym q)

  fits : does t.cells b.state (length out) ≡ true → length wrote ≤ length out
  unfolding writes
  fits e =
      let p = turn_of b.state in
      omega (arith, wide e, few t.pool b.state.reading (get_or b.counts p.place 0) (cell_at t.cells p) (of_word (get_or t.cells p.place 0) refl))

  pub drain_wrote : DrainWrote t b out
  unfolding calls.called drained does writes buffer_after
  drain_wrote = record {
    told =
        told_by (ltb (lowest b.state.processes) process_limit) (moved t.cells b.state.levels (turn_of b.state)).found (ltb 127 (length out)) b.state _ wrote
        (tells t.pool b.state.reading (get_or b.counts (turn_of b.state).place 0) (cell_at t.cells (turn_of b.state)));
    front = front_by wrote out (does t.cells b.state (length out)) fits;
    rest = rest_by wrote out (does t.cells b.state (length out)) fits;
  }
