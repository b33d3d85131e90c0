-- What is recorded of a received byte.
use Rattle.std.specs.Prelude.{ℕ, Bool, false, cond, ◌||◌, List, [], ◌∷◌, take, eqb}
use Rattle.language.specs.declared.Heads.{Heads}

-- a byte among others
unfoldable pub one_of : List ℕ → ℕ → Bool
one_of [] b = false
one_of (c ∷ l) b = eqb c b || one_of l b

-- "A received byte is recorded once; not at all if paused or in OMIT; in all other cases twice if it is the ENCODE byte."
unfoldable pub times_recorded : Heads → Bool → ℕ → ℕ
times_recorded h paused b =
    cond (paused || one_of (take h.omits h.omit) b) 0
    (cond h.encodes (cond (eqb h.encode b) 2 1) 1)
