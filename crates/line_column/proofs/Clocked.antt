-- A clock value: all of the word, or up to the place that is told. Assumes nothing.
use Prim.Native.Nat.{ℕ}
use mathlib.Core.Path.{◌≡◌, refl}
use native.Mathlib.Omega.{arith}
use Rattle.hex_data.specs.Hex.{Said, good, bad, said_place}
use Rattle.language.specs.declared.Clock.{Clock}
use Rattle.std.specs.Prelude.{Ok, Err}
use Rattle.line_values.specs.Inside.ClockUnits.{clock_read}

pub clock_whole : (end : ℕ) (x : Said) {c : Clock} → Ok c ≡ clock_read x → end ≡ said_place end x
unfolding clock_read said_place
clock_whole end (good vs) e = refl
clock_whole end (bad at) e = let z : ◌≡◌ {A = ℕ} 0 1 = cc in absurd (omega arith)

pub clock_bad : (end : ℕ) (x : Said) {at : ℕ} → Err at ≡ clock_read x → at ≡ said_place end x
unfolding clock_read said_place
clock_bad end (good vs) e = let z : ◌≡◌ {A = ℕ} 0 1 = cc in absurd (omega arith)
clock_bad end (bad k) e = cc
