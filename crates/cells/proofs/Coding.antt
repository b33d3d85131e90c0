-- What the coder's tests decide, and what stands after the last cell. Assumes nothing.
use Prim.Native.Nat.{ℕ, ◌+◌, ◌/◌, ◌%◌, ◌≤◌, ◌<◌}
use mathlib.Core.Path.{◌≡◌}
use mathlib.Core.Bool.{true, ◌&&◌}
use mathlib.Core.List.{List}
use native.Mathlib.Omega.{arith}
use borrow.Author.Tests.{leb-true}
use lib.ListN.{length, get_or, get_or-eq_default}
use lib.Dec.{leb}
use Rattle.reader.proofs.Tests.{both_right}
use Rattle.language.specs.Cell.{span_of, span_right, cell_of, decoded}
use Rattle.language.specs.declared.Cell.TheVariants.{Nothing}

-- data within the pool have an argument of at most 24 bits
pub within_pool : (low high a : ℕ) → span_right low high (span_of a) ≡ true → a < 8388608
unfolding span_right
within_pool low high a h =
    let inside = both_right (leb (a % 128) high) _ (both_right (leb low (a % 128)) _ h) in
    omega (arith, leb-true (a / 128 + a % 128) 1024 inside)

pub nothing_behind : (cells : List ℕ) (at : ℕ) → length cells ≤ at → Nothing ≡ decoded (get_or cells at 0)
unfolding decoded cell_of
nothing_behind cells at h = rw (get_or-eq_default cells 0 h)
