-- NO TWO REFUSALS OF THE RUNNER HAVE ONE NUMBER, and the numbers are document 01's. Assumes nothing.
use Prim.Native.Nat.{ℕ}
use mathlib.Core.Path.{◌≡◌, refl, sym, ap, ◌∙◌}
use mathlib.Core.Bool.{cond}
use mathlib.Core.List.{[], ◌∷◌, map}
use lib.Dec.{eqb}
use Rattle.process.specs.declared.RunRefusal.{RunRefusal}
use Rattle.process.specs.declared.RunRefusal.TheVariants.{Busy, BadReading, NoSuchSignal, SmallBuffer, BadTable}
use Rattle.process.specs.State.{run_refusal_number}

-- document 01's table, from 21 on
the_numbers : map run_refusal_number (Busy ∷ BadReading ∷ NoSuchSignal ∷ SmallBuffer ∷ BadTable ∷ []) ≡ 21 ∷ 22 ∷ 23 ∷ 24 ∷ 25 ∷ []
unfolding run_refusal_number
the_numbers = refl

-- the refusal of a number
abbrev refusal_of : ℕ → RunRefusal
refusal_of n = cond (eqb n 21) Busy (cond (eqb n 22) BadReading (cond (eqb n 23) NoSuchSignal (cond (eqb n 24) SmallBuffer BadTable)))

told : (r : RunRefusal) → refusal_of (run_refusal_number r) ≡ r
unfolding run_refusal_number
told Busy = refl
told BadReading = refl
told NoSuchSignal = refl
told SmallBuffer = refl
told BadTable = refl

pub run_numbers_differ : (r s : RunRefusal) → run_refusal_number r ≡ run_refusal_number s → r ≡ s
run_numbers_differ r s e = sym (told r) ∙ ap refusal_of e ∙ told s
