-- `hex_count` meets its contract: each turn of the loop is a law on its state, `Counting`. Assumes nothing.
use Rattle.hex_data.specs.Inside.Steps.{begun}
use Rattle.hex_data.proofs.Pairs.{Small}
use Rattle.hex_data.proofs.Stepping.{Counting}
use Rattle.hex_data.proofs.hex_count.Given as goal

abbrev pub invariant-loop-i : goal.invariant-loop-i
invariant-loop-i l = Counting l.s l.at l.n (begun l.half) l.i × Small l.half
