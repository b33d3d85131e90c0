-- The cycle of `run_figures` and `body_figures` meets its contracts: each role is a law of figures' Scanning. Assumes nothing.
use Rattle.std.proofs.Common.{◌≡◌, ◌∙◌, ℕ, ◌+◌, ◌-◌, ◌≤◌, arith, length}
use Rattle.figures.specs.Flat.{deepest}
use Rattle.figures.specs.Inside.Scan.{MarkAt}
use Rattle.figures.proofs.Scanning.{scan_starts, scan_past, scan_open, scan_closes, scan_lone, scan_plain, scan_rest, scan_opens, scan_strays, nests_ninth, nests_enters, scan_passes}
use Rattle.stretch.specs.declared.Role.{Role}
use Rattle.stretch.specs.declared.Role.TheVariants.{Other, SureRest, Loop, End}
use Rattle.stretch.specs.Inside.Roles.{marked}
use Rattle.stretch.specs.Inside.Scan.{opened}
use Rattle.stretch.specs.Marks.{marks_to}
use Rattle.stretch.proofs.Marking.{marks_length, stands_role}
use Rattle.stretch.proofs.+body_figures_run_figures.Goals as goal
use Rattle.stretch.proofs.+body_figures_run_figures.Goals.{run_figures-After-role_of-role, run_figures-After-loop-i}

pub body_figures-returns-then-left-eq0 : goal.body_figures-returns-then-left-eq0
body_figures-returns-then-left-eq0 t c = nests_ninth _ _ _ (omega arith)

-- one loop more is open in a body
deeper : (left : ℕ) → (left ≡ 0 → ⊥) → left ≤ deepest → opened (left - 1) ≡ opened left + 1
deeper left h few = omega arith

pub body_figures-returns-in_err-once : goal.body_figures-returns-in_err-once
body_figures-returns-in_err-once t c =
    rw c.from_residual.ensures (nests_enters _ _ (omega arith) _ ∙ (rw (c.in_err-once.was, deeper _ c.if-left-eq0.false c.requires.few) at c.run_figures.ensures))

pub body_figures-returns : goal.body_figures-returns
body_figures-returns t c =
    rw c.passes.ensures
    (scan_passes _ _ (omega arith) (rw (c.in_ok-once.was, deeper _ c.if-left-eq0.false c.requires.few) at c.run_figures.ensures))

pub run_figures-loop-i-init : goal.run_figures-loop-i-init
run_figures-loop-i-init t c =
    let l = marks_length c.args.cells.now c.args.end c.requires.inside in
    rw c.nothing-sum.ensures (scan_starts _ _ _ (omega arith))

-- the mark that stands where the code has found a role
read : (t : ℕ) (c : run_figures-After-role_of-role t) (role : Role) → c.role_of-role.result ≡ role
    → MarkAt (marks_to c.args.cells.now c.args.end) c.loop-i.i (marked role)
read t c role e =
    stands_role _ _ c.requires.inside _ c.loop-i-test.true _ _ role c.cell_at.ensures c.role_of-role.ensures e

pub run_figures-loop-i-preserved-in-Other : goal.run_figures-loop-i-preserved-in-Other
run_figures-loop-i-preserved-in-Other t c =
    rw (c.join-sum.ensures, c.plain.ensures)
    (scan_plain _ _ _ _ _ c.loop-i.invariant (read t (goal.at.run_figures-loop-i-preserved-in-Other t c).After-role_of-role Other c.in-Other.is))

pub run_figures-loop-i-preserved-in-SureRest : goal.run_figures-loop-i-preserved-in-SureRest
run_figures-loop-i-preserved-in-SureRest t c =
    rw (c.join-sum-in-SureRest.ensures, c.sure_rest.ensures)
    (scan_rest _ _ _ _ _ c.loop-i.invariant (read t (goal.at.run_figures-loop-i-preserved-in-SureRest t c).After-role_of-role SureRest c.in-SureRest.is))

pub run_figures-returns-in_err-passes-in-Loop : goal.run_figures-returns-in_err-passes-in-Loop
run_figures-returns-in_err-passes-in-Loop t c =
    let s = read t (goal.at.run_figures-returns-in_err-passes-in-Loop t c).After-role_of-role (Loop c.in-Loop.n) c.in-Loop.is in
    rw c.from_residual.ensures (scan_strays _ _ _ _ _ c.loop-i.invariant _ s (rw c.in_err-passes-in-Loop.was at c.body_figures.ensures))

pub run_figures-loop-i-preserved : goal.run_figures-loop-i-preserved
run_figures-loop-i-preserved t c =
    let s = read t (goal.at.run_figures-loop-i-preserved t c).After-role_of-role (Loop c.in-Loop.n) c.in-Loop.is in
    rw (c.join-sum-in-Loop.ensures, c.join-entered.ensures, c.plain-in-Loop.ensures)
    (scan_opens _ _ _ _ _ c.loop-i.invariant _ s _ _ (rw c.in_ok-passes-in-Loop.was at c.body_figures.ensures))

pub run_figures-returns-then-left-lt-LOOPS : goal.run_figures-returns-then-left-lt-LOOPS
run_figures-returns-then-left-lt-LOOPS t c =
    let s = read t (goal.at.run_figures-returns-then-left-lt-LOOPS t c).After-role_of-role End c.in-End.is in
    scan_closes _ _ _ _ _ c.loop-i.invariant s (omega arith)

pub run_figures-returns-in-End : goal.run_figures-returns-in-End
run_figures-returns-in-End t c =
    let s = read t (goal.at.run_figures-returns-in-End t c).After-role_of-role End c.in-End.is in
    scan_lone _ _ _ _ _ c.loop-i.invariant s (omega arith)

-- the end of the marks
past : (t : ℕ) (c : run_figures-After-loop-i t) → length (marks_to c.args.cells.now c.args.end) ≤ c.loop-i.i
past t c = let l = marks_length c.args.cells.now c.args.end c.requires.inside in omega arith

pub run_figures-returns-then-left-eq-LOOPS : goal.run_figures-returns-then-left-eq-LOOPS
run_figures-returns-then-left-eq-LOOPS t c =
    scan_past _ _ _ _ _ c.loop-i.invariant (past t (goal.at.run_figures-returns-then-left-eq-LOOPS t c).After-loop-i) (omega arith)

pub run_figures-returns : goal.run_figures-returns
run_figures-returns t c =
    scan_open _ _ _ _ _ c.loop-i.invariant (past t (goal.at.run_figures-returns t c).After-loop-i) (omega arith)
