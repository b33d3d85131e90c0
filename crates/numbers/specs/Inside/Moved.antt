-- The same answer from another place.
use Rattle.std.specs.Prelude.{ℕ, ◌+◌, Ok, Err}
use Rattle.numbers.specs.Number.{NumberRead, value_at}

-- ---- the same answer, its place moved on by `k`
unfoldable pub moved_on : ℕ → NumberRead → NumberRead
moved_on k (Ok n) = value_at n.value (k + n.next)
moved_on k (Err at) = Err (k + at)
