-- The stretch of a fragment is read off its figures, and there is but one. Assumes nothing.
use mathlib.Core.Path.{◌≡◌, ap, sym, ◌∙◌}
use Prim.Native.Nat.{ℕ, max, ◌≤◌, ◌<◌}
use native.Mathlib.Nat.{le-max_left, le-max_right}
use native.Mathlib.Omega.{arith}
use Rattle.figures.specs.declared.Figures.{Figures}
use Rattle.figures.specs.Fragment.{Fragment}
use Rattle.figures.specs.Written.{written, longest_run}
use Rattle.figures.specs.Cap.{limit, over, cap}
use Rattle.figures.specs.Stretch.{Stretch, Over}
use Rattle.figures.specs.Figures.{capped, fragment_stretch}
use Rattle.figures.proofs.Cap.{cap_within}
use Rattle.figures.proofs.Writing.{figures_written}
use Rattle.figures.proofs.Growing.{longest_grows}

module _ (p : Fragment) where
  pub stretch_written : (m : ℕ) → over ≤ m → fragment_stretch p ≡ cap (longest_run (written m p))
  unfolding capped
  stretch_written m h = ap (λ (a : Figures). a.longest) (figures_written m h p)

  -- what the figures say is so
  pub stretch_is : fragment_stretch p ≤ limit → Stretch p (fragment_stretch p)
  stretch_is h = record {
    most = λ m. omega (arith, longest_grows m (max m over) (le-max_left m over) p, cap_within (longest_run (written (max m over) p)) (stretch_written (max m over) (le-max_right m over)) h);
    enough = over;
    reached = λ m e. cap_within (longest_run (written m p)) (stretch_written m e) h;
  }

  pub over_is : limit < fragment_stretch p → Over p limit
  over_is h = record { enough = over; exceeds = λ m e. omega (arith, stretch_written m e) }

  -- and what is so the figures say
  pub stretch_said : {k : ℕ} → Stretch p k → fragment_stretch p ≡ cap k
  stretch_said s =
      let m = max over s.enough in
      stretch_written m (le-max_left over s.enough) ∙ ap cap (s.reached m (le-max_right over s.enough))

  pub over_said : Over p limit → fragment_stretch p ≡ over
  over_said o =
      let m = max over o.enough in
      omega (arith, stretch_written m (le-max_left over o.enough), o.exceeds m (le-max_right over o.enough))

  -- there is one stretch, and it is over all that it is said to be over
  pub one_stretch : {j k : ℕ} → Stretch p j → Stretch p k → j ≡ k
  one_stretch s t =
      let m = max s.enough t.enough in
      sym (s.reached m (le-max_left s.enough t.enough)) ∙ t.reached m (le-max_right s.enough t.enough)

  pub over_less : {j k : ℕ} → Over p j → Stretch p k → j < k
  over_less o s = omega (arith, s.most o.enough, o.exceeds o.enough (omega arith))
