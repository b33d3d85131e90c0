-- `events::passing::first` meets its contract. Assumes nothing.
use mathlib.Core.Path.{◌≡◌, refl}
use Prim.Native.Nat.{◌-◌}
use native.Mathlib.Omega.{arith}
use lib.Seq.{length-take-le}
use Rattle.events.proofs.passing.first.Goals as goal

pub returns : goal.returns
returns c =
    let a = c.args in
    let e : a.n - 0 ≡ a.n = omega arith in
    rw e (refl, length-take-le a.n a.run.now c.requires)
