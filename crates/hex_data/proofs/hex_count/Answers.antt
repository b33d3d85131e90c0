-- `hex_count` meets its contract: each turn of the loop is a law on its state, `Counting`. Assumes nothing.
use mathlib.Core.Path.{sym, ◌∙◌}
use Rattle.hex_data.proofs.Pairs.{first_small, refused_told, parts_told, begins_told, ends_told}
use Rattle.hex_data.proofs.Stepping.{uncounted, odd_counted, even_counted, refused, skipped, paired, one_more}
use Rattle.hex_data.proofs.hex_count.Goals as goal
use Rattle.hex_data.proofs.hex_count.Goals.{in-Parts, in-Begins, in-Ends}

pub loop-i-init : goal.loop-i-init
loop-i-init c = (uncounted, tt)

pub returns-in_default : goal.returns-in_default
returns-in_default c = sym (refused c.loop-i.invariant.0 c.loop-i-test.true (refused_told c.step_by.ensures c.in_default.is))

pub loop-i-preserved : goal.loop-i-preserved
loop-i-preserved c =
    let w = c.loop-i.invariant.0 in
    let told = c.step_by.ensures in
    elim c.match-step.branch [
      | in-Parts a ↦ rw a.half-is (rw a.n-is (skipped w c.loop-i-test.true (parts_told told c.in-Some.is a.in-Parts.is), tt))
      | in-Begins a ↦ let b = begins_told told c.in-Some.is a.in-Begins.is in rw a.half-is (rw a.n-is (paired w c.loop-i-test.true b, first_small _ _ b))
      | in-Ends a ↦ rw a.half-is (rw a.n-is (one_more w c.loop-i-test.true (ends_told told c.in-Some.is a.in-Ends.is), tt))
    ]

pub returns-then-is_some : goal.returns-then-is_some
returns-then-is_some c = odd_counted _ c.loop-i.invariant.0 c.loop-i-test.false c.loop-i.invariant.1 (sym c.if-is_some.true ∙ c.is_some.ensures)

pub returns : goal.returns
returns c = even_counted _ c.loop-i.invariant.0 c.loop-i-test.false c.loop-i.invariant.1 (sym c.if-is_some.false ∙ c.is_some.ensures)
