-- `statement::moving::neighbours_in` meets its contract. Assumes nothing.
use Rattle.std.proofs.Common.{ℕ, ◌+◌, ap, ◌∙◌, ap₂, arith}
use lib.Seq.{slice}
use Rattle.statement.specs.declared.joining.Joined.{Joined}
use Rattle.statement.specs.Inside.Joined.{joined_of}
use Rattle.statement.proofs.Neighbours.{joined_few}
use Rattle.statement.proofs.moving.neighbours_in.Goals as goal

pub returns : goal.returns
returns c =
    let a = c.args in
    let e = c.join.ensures ∙ ap₂ (λ (i e : ℕ). joined_of (slice (i + 1) e a.cells.now)) c.from.ensures c.from-2.ensures in
    (e, omega (arith, ap (λ (j : Joined). j.cells) e, joined_few a.cells.now (a.p.place + 1) a.p.end))
