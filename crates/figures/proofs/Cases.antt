-- The cases hold: a test over the whole table is computed, and one law turns it into what the table says. Assumes nothing.
use mathlib.Core.Path.{◌≡◌, refl}
use mathlib.Core.Bool.{Bool, true, false, ◌&&◌}
use mathlib.Core.List.{List, [], ◌∷◌}
use native.Mathlib.Omega.{arith}
use lib.Dec.{T, eqb, eqb→eq, leb}
use borrow.Author.Tests.{leb-true, leb-false}
use Rattle.figures.specs.Flat.{fragment, fragments, mark_before}
use Rattle.figures.specs.Cap.{limit}
use Rattle.figures.specs.Figures.{capped, join, again, looped, figures, fragment_stretch}
use Rattle.figures.specs.Cases.{Case, cases, Holds, AllHold}
use Rattle.figures.proofs.Stretches.{stretch_is, over_is}

abbrev right : Case → Bool
right c = eqb (fragment_stretch (fragment c.process)) c.stretch

abbrev all_right_lem : List Case → Bool
all_right_lem [] = true
all_right_lem (c ∷ cs) = right c && all_right_lem cs

both : (a b : Bool) → T (a && b) → T a × T b
both true b t = (tt, t)
both false b t = absurd t

holds : (c : Case) (b : Bool) → leb c.stretch limit ≡ b → T (right c) → Holds b c
holds c true h t =
    let p = fragment c.process in
    let e = eqb→eq (fragment_stretch p) c.stretch t in
    rw (← e) (stretch_is p (omega (arith, leb-true c.stretch limit h)))
holds c false h t =
    let p = fragment c.process in
    let e = eqb→eq (fragment_stretch p) c.stretch t in
    over_is p (omega (arith, leb-false c.stretch limit h))

all_hold : (cs : List Case) → T (all_right_lem cs) → AllHold cs
all_hold [] t = tt
all_hold (c ∷ cs) t =
    let b = both (right c) (all_right_lem cs) t in
    (holds c (leb c.stretch limit) refl b.0, all_hold cs b.1)

-- every case of the stretch, by computation on the definitions
pub cases_hold : AllHold cases
unfolding fragments mark_before figures looped again join capped
cases_hold = all_hold cases tt
