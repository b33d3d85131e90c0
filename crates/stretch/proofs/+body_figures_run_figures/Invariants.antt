-- The cycle of `run_figures` and `body_figures`: `run_figures` at the depth left d calls `body_figures` at d, which calls `run_figures` at
-- d - 1, so the measures are 2d + 1 and 2d. The loop keeps `Going`. Assumes nothing.
use Rattle.std.proofs.Common.{◌+◌, ◌-◌}
use Rattle.figures.proofs.Scanning.{Going}
use Rattle.stretch.specs.Inside.Scan.{opened}
use Rattle.stretch.specs.Marks.{marks_to}
use Rattle.stretch.proofs.+body_figures_run_figures.Given as goal

abbrev pub decreases-body_figures : goal.decreases-body_figures
decreases-body_figures l = l.left + l.left

abbrev pub decreases-run_figures : goal.decreases-run_figures
decreases-run_figures l = l.left + l.left + 1

abbrev pub invariant-run_figures-loop-i : goal.invariant-run_figures-loop-i
invariant-run_figures-loop-i l = Going (marks_to l.cells l.end) l.at (opened l.left) l.sum l.i

abbrev pub decreases-run_figures-loop-i : goal.decreases-run_figures-loop-i
decreases-run_figures-loop-i l = l.end - l.i
