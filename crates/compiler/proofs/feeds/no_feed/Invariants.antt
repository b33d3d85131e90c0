-- The flag is the answer for the bytes that the loop has passed. Assumes nothing.
use Rattle.std.proofs.Common.{◌≡◌, ◌+◌}
use Rattle.compiler.specs.Inside.Text.{part, no_lf}
use Rattle.compiler.proofs.feeds.no_feed.Given as goal

abbrev pub invariant-loop-byte : goal.invariant-loop-byte
invariant-loop-byte l = l.none ≡ no_lf (part l.text l.from (l.from + l.byte-index))
