-- What the stretch of a fragment is. Assumes nothing: these are definitions.
use Rattle.std.specs.Prelude.{◌≡◌, ℕ, ◌≤◌, ◌<◌}
use Rattle.figures.specs.Fragment.{Fragment}
use Rattle.figures.specs.Written.{written, longest_run}

-- "The longest run .. is the stretch": no writing out has a longer run than k, and from some m on each has one of k
pub record Stretch (p : Fragment) (k : ℕ) : Type 0 where
  pub most : (m : ℕ) → longest_run (written m p) ≤ k
  pub enough : ℕ
  pub reached : (m : ℕ) → enough ≤ m → longest_run (written m p) ≡ k

-- "stretch over 4,096": from some m on every writing out has a run of more than k
pub record Over (p : Fragment) (k : ℕ) : Type 0 where
  pub enough : ℕ
  pub exceeds : (m : ℕ) → enough ≤ m → k < longest_run (written m p)
