-- `lister::body::cell_lines` meets its contract: the cells from the next on are left. Assumes nothing.
use Prim.Native.Nat.{ℕ}
use mathlib.Core.Path.{◌≡◌, sym, ap}
use mathlib.Core.List.{List}
use native.Mathlib.Omega.{arith}
use borrow.Author.Rules.{rules}
use lib.ListN.{length}
use Rattle.language.specs.Table.{items_of}
use Rattle.lister.specs.Inside.Printed.{printed_items}
use Rattle.lister.proofs.Printing.{begun, printed, left_is, next_room, went_on}
use Rattle.lister.proofs.Lining.{cells_on, cells_past, part_is}
use Rattle.lister.proofs.body.cell_lines.Goals as goal

pub loop-w-init : goal.loop-w-init
loop-w-init c =
    let long : length c.args.cells.now ≡ 512 = search rules in
    left_is (ap (λ (l : List ℕ). printed_items (items_of c.args.pool.now l))
    (sym (part_is c.args.cells.now c.args.from c.args.end c.min.result c.min-last.result (omega (arith, long, c.min-last.ensures)) c.min.ensures))) begun

pub line-place-requires : goal.line-place-requires
line-place-requires c = next_room _ _ (left_is (cells_on _ _ _ c.loop-w-test.true) c.loop-w.invariant) c.requires

pub loop-w-preserved : goal.loop-w-preserved
loop-w-preserved c = went_on _ _ (left_is (cells_on _ _ _ c.loop-w-test.true) c.loop-w.invariant) c.line-place.ensures

pub returns : goal.returns
returns c = printed (cells_past c.args.pool.now _ c.loop-w.w-index c.loop-w-test.false) c.loop-w.invariant
