-- `accepted::ends::cells_in_use` meets its contract. Assumes nothing.
use lib.ListN.{drop}
use Rattle.accepted.proofs.AllZero.{zeros_are}
use Rattle.accepted.proofs.EndsFit.{no_process, many_processes, ends_behind, ends_clean}
use Rattle.accepted.proofs.ends.cells_in_use.Goals as goal
use Rattle.accepted.proofs.ends.cells_in_use.Goals.{then-processes-lt1-via-then-processes-lt1, then-processes-lt1-via-else-processes-lt1+then-processes-gt-PROCESSES, then-processes-lt1-via-else-processes-lt1+else-processes-gt-PROCESSES+then-not-all_from}

pub returns-then-processes-lt1 : goal.returns-then-processes-lt1
returns-then-processes-lt1 c =
    let p = c.from-processes.ensures in
    elim c.then-processes-lt1.branch [
      | then-processes-lt1-via-then-processes-lt1 w ↦ no_process _ (rw p at w.if-processes-lt1.true)
      | then-processes-lt1-via-else-processes-lt1+then-processes-gt-PROCESSES w ↦
          many_processes _ (rw p at w.if-processes-lt1.false) (rw p at w.if-processes-gt-PROCESSES.true)
      | then-processes-lt1-via-else-processes-lt1+else-processes-gt-PROCESSES+then-not-all_from w ↦
          ends_behind _ (rw p at w.if-processes-lt1.false) (rw p at w.if-processes-gt-PROCESSES.false) (rw p at (zeros_are (drop c.from-processes.result c.args.heads.ends) w.all_from.ensures)) w.if-not-all_from.true
    ]

pub returns : goal.returns
returns c =
    let p = c.from-processes.ensures in
    ends_clean _ (rw p at c.if-processes-lt1.false) (rw p at c.if-processes-gt-PROCESSES.false) (rw p at (zeros_are (drop c.from-processes.result c.args.heads.ends) c.all_from.ensures)) c.if-not-all_from.false
    (rw p at c.last_end.ensures)
