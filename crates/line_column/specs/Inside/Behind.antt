-- What follows a name, at a place of the line.
use Rattle.std.specs.Prelude.{ℕ, ◌+◌, ◌-◌, List, take, drop}
use Rattle.language.specs.Column.{Behind, taken_by, names_behind}

-- the names of f: lines, which are the last of all
unfoldable pub settings_behind : List Behind
settings_behind = drop 4 names_behind

-- the place up to which a line can be taken whose name stands from one place to another
unfoldable pub taken_to : List Behind → List ℕ → ℕ → ℕ → ℕ
taken_to ns s from to = to + taken_by ns (take (to - from) (drop from s)) (drop to s)
