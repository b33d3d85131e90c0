-- All of WAIT DATA's data is matched exactly when the last bytes received are the data. Assumes nothing.
use mathlib.Core.Path.{◌≡◌, refl, sym, ap, ◌∙◌}
use mathlib.Core.Logic.{◌↔◌}
use mathlib.Core.Bool.{true}
use mathlib.Core.List.{List, []}
use Prim.Native.Nat.{ℕ, ◌-◌}
use native.Mathlib.Nat.{le_antisymm}
use native.Mathlib.Omega.{arith}
use lib.ListN.{length, take, length-take, length-drop}
use lib.Seq.{take-length}
use Rattle.reader.specs.Bytes.{same}
use Rattle.reader.proofs.Same.{same_is, is_same}
use Rattle.process.specs.Matching.{last, progress}
use Rattle.process.proofs.Matches.{Ends, fits, most}
use Rattle.running.specs.Running.{ends_in}

-- before any byte nothing is matched
pub at_first_lem : (d : List ℕ) → progress d [] ≡ 0
unfolding progress
at_first_lem d = refl

pub whole_exactly : (d xs : List ℕ) → progress d xs ≡ length d ↔ ends_in d xs ≡ true
unfolding ends_in
whole_exactly d xs = (forward, back)
  where
    forward : progress d xs ≡ length d → same d (last (length d) xs) ≡ true
    forward e =
        let w : Ends d xs (length d) = rw e at (fits d xs) in
        is_same (sym (take-length d) ∙ w.equal)

    back : same d (last (length d) xs) ≡ true → progress d xs ≡ length d
    back t =
        let p : d ≡ last (length d) xs = same_is d (last (length d) xs) t in
        let w : Ends d xs (length d) = record { within = omega (arith, ap length p, length-drop (length xs - length d) xs); equal = take-length d ∙ p } in
        let f = fits d xs in
        let n : length (take (progress d xs) d) ≡ progress d xs = ap length f.equal ∙ length-drop (length xs - progress d xs) xs ∙ omega (arith, f.within) in
        le_antisymm (omega (arith, n, length-take (progress d xs) d)) (most d xs (length d) w)
