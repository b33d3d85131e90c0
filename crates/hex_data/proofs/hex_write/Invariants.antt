-- `hex_write` meets its contract: each turn of the loop is a law on its state, `Writing`. Assumes nothing.
use Rattle.hex_data.specs.Hex.{hex_at}
use Rattle.hex_data.specs.Inside.Said.{said_bytes}
use Rattle.hex_data.specs.Inside.Steps.{begun}
use Rattle.hex_data.proofs.Pairs.{Small}
use Rattle.hex_data.proofs.Stepping.{Writing}
use Rattle.hex_data.proofs.hex_write.Given as goal

abbrev pub invariant-loop-i : goal.invariant-loop-i
invariant-loop-i l =
    Writing l.s l.initial.dst l.to (said_bytes (hex_at l.s l.at)) l.dst l.place (begun l.half) l.i × Small l.half
