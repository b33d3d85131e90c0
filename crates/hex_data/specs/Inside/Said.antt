-- What data say: the bytes, and the same from another place.
use Rattle.std.specs.Prelude.{ℕ, ◌+◌, List, []}
use Rattle.hex_data.specs.Hex.{Said, good, bad}

-- the bytes, where the data are good
unfoldable pub said_bytes : Said → List ℕ
said_bytes (good bs) = bs
said_bytes (bad at) = []

-- the same data, their place moved on by `k`
unfoldable pub moved_said : ℕ → Said → Said
moved_said k (good bs) = good bs
moved_said k (bad at) = bad (k + at)
