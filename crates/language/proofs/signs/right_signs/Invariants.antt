-- Whether the signs of the whole are right is whether those of what is left are. Assumes nothing.
use Rattle.language.proofs.Signing.{Signing}
use Rattle.language.proofs.signs.right_signs.Given as goal

abbrev pub invariant-loop-byte : goal.invariant-loop-byte
invariant-loop-byte l = Signing l.text l.byte-index l.marked
