-- Bytes above the space and below 7Fh, as names, numbers and hex data have them. Assumes nothing.
use Prim.Native.Nat.{ℕ, ◌<◌}
use mathlib.Core.List.{List, ◌++◌}
use Rattle.reader.proofs.Tests.{Every, every_append}

pub record Shown (b : ℕ) : Type 0 where
  pub low : 32 < b
  pub high : b < 127

abbrev pub Solid : List ℕ → Type 0
Solid l = Every Shown l

pub solid_append : (a b : List ℕ) → Solid a → Solid b → Solid (a ++ b)
solid_append a b p q = every_append Shown a b p q
