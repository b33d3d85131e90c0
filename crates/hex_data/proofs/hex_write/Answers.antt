-- `hex_write` meets its contract: each turn of the loop is a law on its state, `Writing`. Assumes nothing.
use Rattle.hex_data.proofs.Pairs.{first_small, refused_told, parts_told, begins_told, ends_told}
use Rattle.hex_data.proofs.Stepping.{unwritten, room_at_end, digit_at_end, none_at_end, none_refused, parted, begins, room_there, byte_stored}
use Rattle.hex_data.proofs.hex_write.Goals as goal
use Rattle.hex_data.proofs.hex_write.Goals.{in-Parts, in-Begins, in-Ends}

pub loop-i-init : goal.loop-i-init
loop-i-init c = (unwritten c.requires.0 c.requires.1, tt)

pub returns-in_default : goal.returns-in_default
returns-in_default c = none_refused c.loop-i.invariant.0 c.loop-i-test.true (refused_told c.step_by.ensures c.in_default.is)

pub bounds-dst-place : goal.bounds-dst-place
bounds-dst-place c = room_there c.loop-i.invariant.0 c.loop-i-test.true (ends_told c.step_by.ensures c.in-Some.is c.in-Ends.is)

pub loop-i-preserved : goal.loop-i-preserved
loop-i-preserved c =
    let w = c.loop-i.invariant.0 in
    let told = c.step_by.ensures in
    elim c.match-step.branch [
      | in-Parts a ↦ rw a.half-is (rw a.dst-is (rw a.place-is (parted w c.loop-i-test.true (parts_told told c.in-Some.is a.in-Parts.is), tt)))
      | in-Begins a ↦
          let b = begins_told told c.in-Some.is a.in-Begins.is in
          rw a.half-is (rw a.dst-is (rw a.place-is (begins w c.loop-i-test.true b, first_small _ _ b)))
      | in-Ends a ↦
          rw a.half-is (rw a.dst-is (rw a.place-is (byte_stored w c.loop-i-test.true (ends_told told c.in-Some.is a.in-Ends.is), tt)))
    ]

pub bounds-dst-place-in-Some-half : goal.bounds-dst-place-in-Some-half
bounds-dst-place-in-Some-half c = room_at_end _ c.loop-i.invariant.0 c.loop-i-test.false c.loop-i.invariant.1 c.in-Some-half.is

pub returns-in-Some-half : goal.returns-in-Some-half
returns-in-Some-half c = digit_at_end _ c.loop-i.invariant.0 c.loop-i-test.false c.loop-i.invariant.1 c.in-Some-half.is

pub returns-in_default-half : goal.returns-in_default-half
returns-in_default-half c = none_at_end _ c.loop-i.invariant.0 c.loop-i-test.false c.loop-i.invariant.1 c.in_default-half.is
