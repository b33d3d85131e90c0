-- The limit of a stretch, and the cap of every run. Assumes nothing: these are definitions.
use Rattle.std.specs.Prelude.{ℕ, suc, min}

-- "it may be 4,096"
abbrev pub limit : ℕ
limit = 4096

-- "capped at 4,097", which stands for every number over 4,096
abbrev pub over : ℕ
over = suc limit

-- a run, "capped at 4,097"
abbrev pub cap : ℕ → ℕ
cap n = min n over
