-- What a call for each of the processes asks and gives.
use Rattle.std.specs.Prelude.{ℕ, ◌≡◌, ◌<◌, List, length, get_or}
use Rattle.process.specs.declared.Process.{Process}

-- each process may be handed to a call
abbrev pub EachMay : (Process → Type 0) → List Process → Type 0
EachMay may ps = (i : ℕ) (d : Process) → i < length ps → may (get_or ps i d)

-- what a call of each process gave, in its place
pub record EachGives (gives : Process → Process → Type 0) (ps qs : List Process) : Type 0 where
  pub long : length qs ≡ length ps
  pub at : (i : ℕ) (d : Process) → i < length ps → gives (get_or ps i d) (get_or qs i d)
