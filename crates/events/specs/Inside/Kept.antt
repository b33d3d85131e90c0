-- The links that a gulp keeps: one table for all waits, those of one behind those of another. As the code goes through it: nothing here has to be believed.
use Rattle.std.specs.Prelude.{ℕ, zero, suc, ◌+◌, ◌-◌, cond, List, [], ◌∷◌, ltb, length, get_or, take, drop}
use Rattle.process.specs.declared.Wait.{Wait}
use Rattle.process.specs.declared.Wait.TheVariants.{Ready, Over, Ticks, Bytes, Data, ClockValue, Signal}
use Rattle.process.specs.declared.Process.{Process}
use Rattle.process.specs.Waiting.{awaited}
use Rattle.events.specs.Inside.Links.{Linked}

-- the table ls has the links that it says at 0 to be made, beside that of 1
abbrev pub Kept : List ℕ → List ℕ → Type 0
Kept d ls = Linked d ls (get_or ls 0 0 + 1)

-- the data that a wait is for
abbrev pub data_of : List ℕ → Wait → List ℕ
data_of pool Ready = []
data_of pool Over = []
data_of pool (Ticks n) = []
data_of pool (Bytes n) = []
data_of pool (Data m) = awaited pool m
data_of pool (ClockValue c) = []
data_of pool (Signal l) = []

-- the places for its links, of those that are left: one for each byte of the data, or none where so many are not left
unfoldable pub places_for : Wait → ℕ → ℕ
places_for Ready left = 0
places_for Over left = 0
places_for (Ticks n) left = 0
places_for (Bytes n) left = 0
places_for (Data m) left = cond (ltb left m.count) 0 m.count
places_for (ClockValue c) left = 0
places_for (Signal l) left = 0

-- the links of one process after those of another, from a place on
abbrev pub KeptFrom : List ℕ → List ℕ → ℕ → List Process → Type 0
KeptFrom pool ls from [] = Unit {0}
KeptFrom pool ls from (p ∷ ps) =
    let n = places_for p.wait (length ls - from) in
    Kept (data_of pool p.wait) (take n (drop from ls)) × KeptFrom pool ls (from + n) ps

-- where those of process i begin
unfoldable pub begins : ℕ → ℕ → List Process → ℕ → ℕ
begins most from ps zero = from
begins most from [] (suc i) = from
begins most from (p ∷ ps) (suc i) = begins most (from + places_for p.wait (most - from)) ps i
