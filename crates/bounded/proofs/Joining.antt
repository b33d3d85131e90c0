-- A wait for data and its neighbours, which are one wait: what is passed over are sure rests, and their bytes lie together. Assumes nothing.
use mathlib.Core.Path.{◌≡◌, refl}
use mathlib.Core.Bool.{true}
use mathlib.Core.List.{List, [], ◌∷◌, ◌++◌, map}
use mathlib.Core.Logic.{⊎_elim}
use Prim.Native.Nat.{ℕ, suc, ◌+◌, ◌≤◌}
use native.Mathlib.Nat.{le_refl}
use native.Mathlib.Numerals.{add-one}
use native.Mathlib.Omega.{arith}
use lib.ListN.{length, drop}
use Rattle.figures.specs.Flat.{Mark, sure_rest, beyond, mark_before, fragments, fragment, marks_nest}
use Rattle.figures.specs.Written.{Done, written, run}
use Rattle.language.specs.declared.Span.{Span}
use Rattle.language.specs.declared.Cell.{Cell}
use Rattle.language.specs.declared.Cell.TheVariants.{Nothing, Send, Loop, End, WaitTime, WaitData, WaitByte, WaitClock, WaitSignal, Rts, Log, Fchange, Pause, Resume, Nop, Unknown}
use Rattle.language.specs.Limits.{wait_room}
use Rattle.language.specs.Cell.{decoded}
use Rattle.language.specs.Inside.Right.{cell_right}
use Rattle.language.specs.Stretch.{mark_of}
use Rattle.language.specs.Table.{statement_of}
use Rattle.language.proofs.Cells.{span_fits, code_decode}
use Rattle.stretch.specs.Marks.{cell_mark, word_mark}
use Rattle.accepted.specs.Inside.Cells as tests
use Rattle.accepted.specs.Inside.Cells.{words_end}
use Rattle.statement.specs.Joining.{more, awaited_bytes, neighbours, their_bytes}

-- ---- a cell waits for data, or it is another

data Kind : Cell → Type 0 where
  awaiting : (s : Span) → Kind (WaitData s)
  another : {c : Cell} → ((n other : ℕ) → more c n other ≡ other) → Kind c

kind : (c : Cell) → Kind c
kind Nothing = another (λ n o. refl)
kind (Send s) = another (λ n o. refl)
kind (Loop k) = another (λ n o. refl)
kind End = another (λ n o. refl)
kind (WaitTime k) = another (λ n o. refl)
kind (WaitData s) = awaiting s
kind (WaitByte k) = another (λ n o. refl)
kind (WaitClock c) = another (λ n o. refl)
kind (WaitSignal l) = another (λ n o. refl)
kind (Rts on) = another (λ n o. refl)
kind (Log s) = another (λ n o. refl)
kind Fchange = another (λ n o. refl)
kind Pause = another (λ n o. refl)
kind Resume = another (λ n o. refl)
kind Nop = another (λ n o. refl)
kind Unknown = another (λ n o. refl)

-- ---- sure rests passed over

-- the second list is the first without some sure rests at its front: it nests and goes on alike, and has no longer run
pub record Skips (ms ns : List Mark) : Type 0 where
  pub nested : (d : ℕ) → marks_nest d ns ≡ marks_nest d ms
  pub behind : beyond (fragments ns) ≡ beyond (fragments ms)
  pub less : (m : ℕ) (ys : List Done) → run 0 (written m (fragment ns) ++ ys) ≤ run 0 (written m (fragment ms) ++ ys)

skips_none : (ms : List Mark) → Skips ms ms
skips_none ms = record { nested = λ d. refl; behind = refl; less = λ m ys. le_refl (run 0 (written m (fragment ms) ++ ys)) }

skips_rest : {ms ns : List Mark} → Skips ms ns → Skips (sure_rest ∷ ms) ns
unfolding marks_nest fragments mark_before written run
skips_rest s = record { nested = s.nested; behind = s.behind; less = λ m ys. omega (arith, s.less m ys) }

mark_waits : (s : Span) → cell_mark (WaitData s) ≡ sure_rest
unfolding cell_mark mark_of statement_of
mark_waits s = refl

pub neighbours_skip : (ws : List ℕ) → Skips (map word_mark ws) (map word_mark (drop (neighbours ws) ws))
unfolding neighbours
neighbours_skip [] = skips_none []
neighbours_skip (w ∷ ws) = go (decoded w) refl (kind (decoded w)) (neighbours_skip ws)
  where
    go : (c : Cell) → decoded w ≡ c → Kind c → Skips (map word_mark ws) (map word_mark (drop (neighbours ws) ws)) → Skips (cell_mark c ∷ map word_mark ws) (map word_mark (drop (more c (neighbours ws + 1) 0) (w ∷ ws)))
    go _ e (awaiting s) ih = rw (mark_waits s, add-one (neighbours ws)) (skips_rest ih)
    go c e (another f) ih = rw (f (neighbours ws + 1) 0, e) (skips_none (cell_mark c ∷ map word_mark ws))

pub neighbours_few : (ws : List ℕ) → neighbours ws ≤ length ws
unfolding neighbours
neighbours_few [] = omega arith
neighbours_few (w ∷ ws) = go (decoded w) (kind (decoded w)) (neighbours_few ws)
  where
    go : (c : Cell) → Kind c → neighbours ws ≤ length ws → more c (neighbours ws + 1) 0 ≤ suc (length ws)
    go _ (awaiting s) ih = omega arith
    go c (another f) ih = rw (f (neighbours ws + 1) 0) (omega arith)

-- ---- their bytes

pub end_rises : (ws : List ℕ) (at : ℕ) → at ≤ words_end at ws
unfolding words_end
end_rises [] at = le_refl at
end_rises (w ∷ ws) at = omega (arith, end_rises ws (at + tests.bytes_of_cell (decoded w)))

pub bytes_together : (ws : List ℕ) (at : ℕ) → at + their_bytes ws ≤ words_end at ws
unfolding their_bytes words_end tests.bytes_of_cell
bytes_together [] at = omega arith
bytes_together (w ∷ ws) at = go (decoded w) (kind (decoded w)) (bytes_together ws)
  where
    go : (c : Cell) → Kind c → ((at : ℕ) → at + their_bytes ws ≤ words_end at ws) → at + more c (awaited_bytes c + their_bytes ws) 0 ≤ words_end (at + tests.bytes_of_cell c) ws
    go _ (awaiting s) ih = omega (arith, ih (at + s.count))
    go c (another f) ih = rw (f (awaited_bytes c + their_bytes ws) 0) (omega (arith, end_rises ws (at + tests.bytes_of_cell c)))

-- a wait for data has some
pub waits_some : (w : ℕ) (s : Span) → decoded w ≡ WaitData s → 1 ≤ s.count
unfolding cell_right
waits_some w s e = ⊎_elim (λ u. let z : ◌≡◌ {A = ℕ} 0 1 = cc in absurd (omega arith)) (λ r. right (rw e at r.0)) (code_decode w)
  where
    right : cell_right (WaitData s) ≡ true → 1 ≤ s.count
    right q = (span_fits 1 wait_room s q).least
