-- The processes of a table are those of its script, and their loops nest just when the script's do. Assumes nothing.
use mathlib.Core.Path.{◌≡◌, refl, ap, ap₂, sym, ◌∙◌}
use mathlib.Core.Bool.{Bool, true, false, cond, ◌&&◌}
use mathlib.Core.List.{List, [], ◌∷◌, ◌++◌, map}
use Prim.Native.Nat.{ℕ, ◌<◌}
use native.Mathlib.Omega.{arith}
use lib.Dec.{ltb}
use lib.ListN.{length, take}
use lib.Seq.{slice}
use Rattle.figures.specs.Flat as flat
use Rattle.figures.specs.Flat.{Mark, plain, sure_rest}
use Rattle.figures.proofs.Counting.{nests_end, nests_closes, nests_opens}
use Rattle.language.specs.declared.Cell.{Cell}
use Rattle.language.specs.declared.Cell.TheVariants.{Nothing, Send, Loop, End, WaitTime, WaitData, WaitByte, WaitClock, WaitSignal, Rts, Log, Fchange, Pause, Resume, Nop, Unknown}
use Rattle.language.specs.declared.Table.{Table}
use Rattle.language.specs.Script.{Statement, send, loop, end, wait_time, wait_data, wait_byte, wait_clock, wait_signal, rts, log, fchange, pause, resume, nop, Item, does, next, in_first, processes, shape}
use Rattle.language.specs.Right.{may_nest, depth_after, nests}
use Rattle.language.specs.Cell.{decoded}
use Rattle.language.specs.Stretch.{mark_of}
use Rattle.language.specs.Table.{statement_of, items_of, body_from, script_of}
use Rattle.stretch.specs.Marks.{cell_mark, word_mark, marks_between, processes_from, processes_of}

-- ---- the marks of a script

-- the marks of each process
abbrev pub marks_of : List (List Statement) → List (List Mark)
marks_of ps = map (map mark_of) ps

-- the data do not matter
pub mark_cell : (pool : List ℕ) (c : Cell) → mark_of (statement_of pool c) ≡ cell_mark c
unfolding mark_of statement_of cell_mark
mark_cell pool Nothing = refl
mark_cell pool (Send s) = refl
mark_cell pool (Loop n) = refl
mark_cell pool End = refl
mark_cell pool (WaitTime n) = refl
mark_cell pool (WaitData s) = refl
mark_cell pool (WaitByte n) = refl
mark_cell pool (WaitClock c) = refl
mark_cell pool (WaitSignal l) = refl
mark_cell pool (Rts on) = refl
mark_cell pool (Log s) = refl
mark_cell pool Fchange = refl
mark_cell pool Pause = refl
mark_cell pool Resume = refl
mark_cell pool Nop = refl
mark_cell pool Unknown = refl

-- a mark in front of the first process
first : Mark → List (List Mark) → List (List Mark)
first m [] = (m ∷ []) ∷ []
first m (p ∷ ps) = (m ∷ p) ∷ ps

marks_first : (s : Statement) (ps : List (List Statement)) → marks_of (in_first s ps) ≡ first (mark_of s) (marks_of ps)
unfolding in_first first
marks_first s [] = refl
marks_first s (p ∷ ps) = refl

module _ (pool : List ℕ) where
  items_last : (ws : List ℕ) → marks_of (processes (items_of pool ws)) ≡ map word_mark ws ∷ []
  unfolding processes items_of first
  items_last [] = refl
  items_last (w ∷ ws) = marks_first _ (processes (items_of pool ws)) ∙ ap₂ first (mark_cell pool (decoded w)) (items_last ws)

  items_next : (ws : List ℕ) (is : List Item) → marks_of (processes (items_of pool ws ++ next ∷ is)) ≡ map word_mark ws ∷ marks_of (processes is)
  unfolding processes items_of first
  items_next [] is = refl
  items_next (w ∷ ws) is = marks_first _ (processes (items_of pool ws ++ next ∷ is)) ∙ ap₂ first (mark_cell pool (decoded w)) (items_next ws is)

  body_marks : (ws : List ℕ) (i e : ℕ) (es : List ℕ) → marks_of (processes (body_from pool ws i (e ∷ es))) ≡ processes_from ws i (e ∷ es)
  unfolding body_from processes_from marks_between
  body_marks ws i e [] = items_last (slice i e ws)
  body_marks ws i e (f ∷ es) = items_next (slice i e ws) (body_from pool ws e (f ∷ es)) ∙ ap (λ (l : List (List Mark)). map word_mark (slice i e ws) ∷ l) (body_marks ws e f es)

-- a table that has a process at all
pub table_marks : (t : Table) → 0 < length (take t.heads.processes t.heads.ends)
    → processes_of t.cells t.heads ≡ marks_of (processes (script_of t).body)
unfolding processes_of script_of
table_marks t h = go (take t.heads.processes t.heads.ends) h
  where
    go : (es : List ℕ) → 0 < length es → processes_from t.cells 0 es ≡ marks_of (processes (body_from t.pool t.cells 0 es))
    go [] h = absurd (omega arith)
    go (e ∷ es) h = sym (body_marks t.pool t.cells 0 e es)

-- ---- loops that nest

-- whether the loops of each process nest, with `opened` loops open at the start of the first
unfoldable pub all_nest : ℕ → List (List Mark) → Bool
all_nest opened [] = flat.marks_nest opened []
all_nest opened (p ∷ ps) = flat.marks_nest opened p && all_nest 0 ps

module _ (d : ℕ) (ms : List Mark) where
  stays_on : (t : Bool) → flat.marks_nest d (cond t sure_rest plain ∷ ms) ≡ flat.marks_nest d ms
  unfolding flat.marks_nest
  stays_on true = refl
  stays_on false = refl

-- a statement first
nests_statement : (s : Statement) (d : ℕ) (ms : List Mark) → flat.marks_nest d (mark_of s ∷ ms) ≡ (may_nest (shape s) d && flat.marks_nest (depth_after (shape s) d) ms)
unfolding mark_of may_nest depth_after shape
nests_statement (send bs) d ms = stays_on d ms false
nests_statement (loop n) d ms = nests_opens n d ms
nests_statement end d ms = nests_closes d ms
nests_statement (wait_time n) d ms = stays_on d ms (ltb 0 n)
nests_statement (wait_data bs) d ms = stays_on d ms true
nests_statement (wait_byte n) d ms = stays_on d ms (ltb 0 n)
nests_statement (wait_clock vs) d ms = stays_on d ms true
nests_statement (wait_signal n on) d ms = stays_on d ms false
nests_statement (rts on) d ms = stays_on d ms false
nests_statement (log text) d ms = stays_on d ms false
nests_statement fchange d ms = stays_on d ms false
nests_statement pause d ms = stays_on d ms false
nests_statement resume d ms = stays_on d ms false
nests_statement nop d ms = stays_on d ms false

and_assoc : (a b c : Bool) → ((a && b) && c) ≡ (a && (b && c))
and_assoc true b c = refl
and_assoc false b c = refl

and_end : (a : Bool) → (a && flat.marks_nest 0 []) ≡ a
unfolding flat.marks_nest
and_end true = refl
and_end false = refl

nests_first : (s : Statement) (d : ℕ) (ps : List (List Statement))
    → all_nest d (marks_of (in_first s ps)) ≡ (may_nest (shape s) d && all_nest (depth_after (shape s) d) (marks_of ps))
unfolding all_nest in_first
nests_first s d [] = and_end (flat.marks_nest d (mark_of s ∷ [])) ∙ nests_statement s d []
nests_first s d (p ∷ ps) = ap (λ (t : Bool). t && all_nest 0 (marks_of ps)) (nests_statement s d (map mark_of p)) ∙ and_assoc (may_nest (shape s) d) _ _

-- a script's loops nest just when those of each of its processes do
pub nests_processes : (is : List Item) (d : ℕ) → nests is d ≡ all_nest d (marks_of (processes is))
unfolding nests processes all_nest
nests_processes [] d = sym (nests_end d) ∙ sym (and_end (flat.marks_nest d []))
nests_processes (does s ∷ is) d = ap (λ (t : Bool). may_nest (shape s) d && t) (nests_processes is (depth_after (shape s) d)) ∙ sym (nests_first s d (processes is))
nests_processes (next ∷ is) d = ap₂ ◌&&◌ (sym (nests_end d)) (nests_processes is 0)
