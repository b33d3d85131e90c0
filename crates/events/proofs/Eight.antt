-- What a call for each of the processes gave is the map of them. Assumes nothing.
use mathlib.Core.Path.{◌≡◌, refl, ap₂}
use mathlib.Core.List.{List, [], ◌∷◌, map}
use Prim.Native.Nat.{ℕ, suc, ◌<◌}
use native.Mathlib.Omega.{arith}
use lib.ListN.{length, get_or}
use Rattle.process.specs.declared.Process.{Process}
use Rattle.events.specs.Inside.Each.{EachGives}

-- A call that gives h of each process gives the map of them.
pub gives_map : {gives : Process → Process → Type 0} {ps qs : List Process} (h : Process → Process) → EachGives gives ps qs → ((p q : Process) → gives p q → q ≡ h p) → qs ≡ map h ps
gives_map {gives} {ps} {qs} h e k = go ps qs e.long e.at
  where
    go : (ps qs : List Process) → length qs ≡ length ps → ((i : ℕ) (d : Process) → i < length ps → gives (get_or ps i d) (get_or qs i d)) → qs ≡ map h ps
    go [] [] n at = refl
    go [] (q ∷ qs) n at = absurd (omega arith)
    go (p ∷ ps) [] n at = absurd (omega arith)
    go (p ∷ ps) (q ∷ qs) n at = ap₂ (λ (x : Process) (l : List Process). x ∷ l) (k p q (at 0 p (omega arith))) (go ps qs (omega arith) (λ i d l. at (suc i) d (omega arith)))
