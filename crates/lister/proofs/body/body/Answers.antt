-- `lister::body::body` meets its contract. Assumes nothing.
use Prim.Native.Nat.{ℕ, ◌-◌, ◌<◌, min}
use mathlib.Core.Path.{◌≡◌, sym, ap}
use mathlib.Core.List.{List}
use native.Mathlib.Omega.{arith}
use lib.ListN.{length, take, drop}
use Rattle.accepted.specs.Inside.Heads.{ends_of}
use Rattle.lister.specs.Inside.Printed.{printed_items, further}
use Rattle.lister.proofs.Printing.{printed_none, printed_is, room_is}
use Rattle.lister.proofs.Lining.{no_processes, part_is}
use Rattle.lister.proofs.Bodies.{line_room, cells_room, others_room, body_printed}
use borrow.Author.Rules.{rules}
use Rattle.lister.proofs.body.body.Goals as goal
use Rattle.lister.proofs.body.body.Goals.{Start}

some-cells : (w : Start) → 0 < length w.args.cells.now
some-cells w = search rules

all-ends : (w : Start) → length w.args.heads.ends ≡ 8
all-ends w = search rules

-- the ends after the first
rest-is : (w : Start) (first : ℕ) {k n : ℕ} → n ≡ w.args.heads.processes → k ≡ min n 8 → (k ≡ 0 → ⊥)
    → printed_items (further w.args.pool.now w.args.cells.now first (take (k - 1) (drop 1 w.args.heads.ends)))
    ≡ printed_items (further w.args.pool.now w.args.cells.now first (drop 1 (ends_of w.args.heads)))
rest-is w first {k} {n} is few some =
    ap (λ (l : List ℕ). printed_items (further w.args.pool.now w.args.cells.now first l))
    (part_is w.args.heads.ends 1 w.args.heads.processes 1 k (omega (arith, is, few, all-ends w)) (omega arith))

pub returns-then-processes-eq0 : goal.returns-then-processes-eq0
returns-then-processes-eq0 c =
    let none : c.args.heads.processes ≡ 0 = omega (arith, c.if-processes-eq0.true, c.min-processes.ensures, c.from.ensures) in
    printed_is (sym (no_processes c.args.pool.now c.args.cells.now c.args.heads.ends none)) printed_none

some : {p n k : ℕ} → n ≡ p → k ≡ min n 8 → (k ≡ 0 → ⊥) → p ≡ 0 → ⊥
some is few h e = omega (arith, is, few, h, e)

pub first_line-begun-requires : goal.first_line-begun-requires
first_line-begun-requires c =
    let s = (goal.at.first_line-begun-requires c).Start in
    line_room c.args.pool.now c.args.cells.now c.args.heads (some-cells s) (all-ends s)
    (some c.from.ensures c.min-processes.ensures c.if-processes-eq0.false) c.from-first.ensures c.first_empty.ensures c.requires

pub cell_lines-next-requires : goal.cell_lines-next-requires
cell_lines-next-requires c =
    let s = (goal.at.cell_lines-next-requires c).Start in
    cells_room c.args.pool.now c.args.cells.now c.args.heads (some-cells s) (all-ends s)
    (some c.from.ensures c.min-processes.ensures c.if-processes-eq0.false) c.from-first.ensures c.first_empty.ensures
    c.requires c.first_line-begun.ensures

pub others-requires : goal.others-requires
others-requires c =
    let s = (goal.at.others-requires c).Start in
    room_is (rest-is s _ c.from.ensures c.min-processes.ensures c.if-processes-eq0.false)
    (others_room c.args.pool.now c.args.cells.now c.args.heads (some-cells s) (all-ends s)
    (some c.from.ensures c.min-processes.ensures c.if-processes-eq0.false) c.from-first.ensures c.first_empty.ensures
    c.requires c.first_line-begun.ensures c.cell_lines-next.ensures)

pub returns : goal.returns
returns c =
    let s = (goal.at.returns c).Start in
    body_printed c.args.pool.now c.args.cells.now c.args.heads (some-cells s) (all-ends s)
    (some c.from.ensures c.min-processes.ensures c.if-processes-eq0.false) c.from-first.ensures
    c.first_empty.ensures c.requires c.first_line-begun.ensures c.cell_lines-next.ensures
    (printed_is (rest-is s _ c.from.ensures c.min-processes.ensures c.if-processes-eq0.false) c.others.ensures)
