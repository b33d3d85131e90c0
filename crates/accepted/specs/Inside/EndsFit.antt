-- How far a pass over the ends or the cells comes: to a place, or not to the end.
use Rattle.std.specs.Prelude.{ℕ, Bool, cond, List, Option, Some, None}
use Rattle.accepted.specs.Inside.Heads.{rising, last_end}

-- a pass that goes well comes to a place
abbrev pub reaches : Bool → ℕ → Option ℕ
reaches ok e = cond ok (Some e) None

-- the ends rise, to the last of them
unfoldable pub ends_reach : ℕ → List ℕ → Option ℕ
ends_reach i es = reaches (rising i es) (last_end i es)
