-- The counts that a box of the runner has at the places of a process are the counts of the LOG statements of the script's process, and 0 at every other
-- place. Assumes nothing.
use mathlib.Core.Path.{◌≡◌, refl, sym, ap, ap₂, ◌∙◌}
use mathlib.Core.Bool.{true, false, cond}
use mathlib.Core.List.{List, [], ◌∷◌}
use Prim.Native.Nat.{ℕ, zero, suc, ◌+◌, ◌-◌, ◌≤◌, ◌<◌}
use native.Mathlib.Numerals.{add-one}
use native.Mathlib.Omega.{arith}
use lib.ListN.{length, get_or, set, replicate}
use lib.Seq.{slice, slice-cons, slice_empty}
use Rattle.reader.proofs.Tests.{true_is_false, by_cases}
use Rattle.language.specs.declared.Table.{Table}
use Rattle.language.specs.declared.Span.{Span}
use Rattle.language.specs.declared.Cell.{Cell}
use Rattle.language.specs.declared.Cell.TheVariants.{Nothing, Send, Loop, End, WaitTime, WaitData, WaitByte, WaitClock, WaitSignal, Rts, Log, Fchange, Pause, Resume, Nop, Unknown}
use Rattle.language.specs.Limits.{lines_limit}
use Rattle.language.specs.Script.{Statement}
use Rattle.language.specs.Cell.{decoded}
use Rattle.language.specs.Table.{statement_of}
use Rattle.accepted.specs.Accepted.{table_right}
use Rattle.statement.specs.Saying.{counted_by}
use Rattle.runner.specs.Draining.{turn_of, does, counts_after}
use Rattle.runner.specs.Starting.{start_counts}
use Rattle.runner.specs.Calls as calls
use Rattle.runner.specs.Calls.{Box, Call, start, tick, byte, reading, level, ticks, bytes, drain, start_call}
use Rattle.bounded.specs.Replies.{called}
use Rattle.running.specs.Joined.{joined_in}
use Rattle.running.specs.Called.{is_log}
use Rattle.running.proofs.From.{says, said, from}

-- ---- a cell is a LOG; or its statement is none, and counts nothing

data Logs (pool : List ℕ) : Cell → Type 0 where
  one : (s : Span) → Logs pool (Log s)
  none : {c : Cell} → is_log (statement_of pool c) ≡ false → ((n : ℕ) → counted_by n c ≡ n) → Logs pool c

logs : (pool : List ℕ) (c : Cell) → Logs pool c
unfolding statement_of counted_by
logs pool Nothing = none refl (λ n. refl)
logs pool (Send s) = none refl (λ n. refl)
logs pool (Loop k) = none refl (λ n. refl)
logs pool End = none refl (λ n. refl)
logs pool (WaitTime k) = none refl (λ n. refl)
logs pool (WaitData s) = none refl (λ n. refl)
logs pool (WaitByte k) = none refl (λ n. refl)
logs pool (WaitClock c) = none refl (λ n. refl)
logs pool (WaitSignal l) = none refl (λ n. refl)
logs pool (Rts on) = none refl (λ n. refl)
logs pool (Log s) = one s
logs pool Fchange = none refl (λ n. refl)
logs pool Pause = none refl (λ n. refl)
logs pool Resume = none refl (λ n. refl)
logs pool Nop = none refl (λ n. refl)
logs pool Unknown = none refl (λ n. refl)

-- ---- where there is no LOG the count stays 0

pub Zeros : Table → List ℕ → Type 0
Zeros t counts = (j : ℕ) → is_log (says t.pool (get_or t.cells j 0)) ≡ false → get_or counts j 0 ≡ 0

set_zero : (l : List ℕ) (i j v : ℕ) → (j ≡ i → v ≡ 0) → get_or l j 0 ≡ 0 → get_or (set l i v) j 0 ≡ 0
set_zero [] i j v f z = z
set_zero (x ∷ l) zero zero v f z = f refl
set_zero (x ∷ l) zero (suc j) v f z = z
set_zero (x ∷ l) (suc i) zero v f z = z
set_zero (x ∷ l) (suc i) (suc j) v f z = set_zero l i j v (λ e. f (ap suc e)) z

-- a statement that is no LOG leaves its count
counted_zero : (pool : List ℕ) (c : Cell) (n : ℕ) → is_log (statement_of pool c) ≡ false → n ≡ 0 → counted_by n c ≡ 0
counted_zero pool c n e z = go c (logs pool c) e
  where
    go : (x : Cell) → Logs pool x → is_log (statement_of pool x) ≡ false → counted_by n x ≡ 0
    go _ (one s) d = unfold statement_of in true_is_false d
    go x (none d f) y = f n ∙ z

pub start_zeros : (t : Table) (b : Box) → table_right t ≡ true → Zeros t (called t start b).box.counts
unfolding calls.called start_call start_counts Zeros
start_zeros t b e j i = rw e (get_d_zero lines_limit j)
  where
    get_d_zero : (n j : ℕ) → get_or {A = ℕ} (replicate n 0) j 0 ≡ 0
    get_d_zero zero j = refl
    get_d_zero (suc n) zero = refl
    get_d_zero (suc n) (suc j) = get_d_zero n j

pub call_zeros : (t : Table) (b : Box) → table_right t ≡ true → Zeros t b.counts → (q : Call) → Zeros t (called t q b).box.counts
unfolding calls.called counts_after Zeros
call_zeros t b e z start = start_zeros t b e
call_zeros t b e z tick = z
call_zeros t b e z (byte x) = z
call_zeros t b e z (reading r) = z
call_zeros t b e z (level n on) = z
call_zeros t b e z (ticks n) = z
call_zeros t b e z (bytes run room) = z
call_zeros t b e z (drain room) = λ j i.
    let p = (turn_of b.state).place in
    by_cases (λ (l : List ℕ). get_or l j 0 ≡ 0) (does t.cells b.state room) _ _
    (λ u. set_zero b.counts p j _ (λ d. counted_zero t.pool _ _ (rw d at i) (rw d at (z j i))) (z j i))
    (λ u. z j i)

-- ---- the counts of a process, by its statements

-- c counts the LOG statements by the number of statements after them, as they are done
unfoldable pub counts_by : (ℕ → ℕ) → List Statement → List ℕ
counts_by c [] = []
counts_by c (x ∷ xs) = cond (is_log x) (c (length (joined_in xs))) 0 ∷ counts_by c xs

module _ (t : Table) (counts : List ℕ) (first end : ℕ) (inside : end ≤ length t.cells) (long : end ≤ length counts) (zeros : Zeros t counts) (c : ℕ → ℕ)
    (counted : (j : ℕ) (s : Span) → first ≤ j → j < end → decoded (get_or t.cells j 0) ≡ Log s → c (length (from t.cells t.pool end (j + 1))) ≡ get_or counts j 0) where
  head_is : (i : ℕ) → first ≤ i → i < end → get_or counts i 0 ≡ cond (is_log (says t.pool (get_or t.cells i 0))) (c (length (from t.cells t.pool end (i + 1)))) 0
  unfolding Zeros
  head_is i l g = go (decoded (get_or t.cells i 0)) refl (logs t.pool (decoded (get_or t.cells i 0)))
    where
      go : (x : Cell) → decoded (get_or t.cells i 0) ≡ x → Logs t.pool x → get_or counts i 0 ≡ cond (is_log (statement_of t.pool x)) (c (length (from t.cells t.pool end (i + 1)))) 0
      go _ e (one s) = unfold statement_of in sym (counted i s l g e)
      go x e (none d f) = rw d (zeros i (rw e d))

  rows : (m i : ℕ) → i + m ≡ end → first ≤ i → slice i end counts ≡ counts_by c (said t.pool (slice i end t.cells))
  unfolding counts_by from
  rows zero i e l =
      let z : i ≡ end = omega arith in
      rw (z, slice_empty end counts, slice_empty end t.cells)
  rows (suc m) i e l =
      let g : i < end = omega arith in
      rw (slice-cons i end counts 0 g long, slice-cons i end t.cells 0 g inside)
      (ap₂ (λ (x : ℕ) (xs : List ℕ). x ∷ xs) (rw (add-one i) at (head_is i l g)) (rows m (suc i) (omega arith) (omega arith)))

  pub counts_are : first ≤ end → slice first end counts ≡ counts_by c (said t.pool (slice first end t.cells))
  counts_are o = rows (end - first) first (omega arith) (omega arith)
