-- What a largest stretch says of each process, by the places of its cells. Assumes nothing.
use mathlib.Core.Path.{◌≡◌, refl, ap, ap₂, subst, ◌∙◌}
use mathlib.Core.List.{List, [], ◌∷◌}
use Prim.Native.Nat.{ℕ, zero, suc, ◌<◌}
use native.Mathlib.Omega.{arith}
use lib.ListN.{length, get_or, take, length-take}
use lib.Seq.{get_or-take}
use Rattle.language.specs.declared.Heads.{Heads}
use Rattle.std.specs.Prelude.{Ok}
use Rattle.stretch.specs.Marks.{marks_between, processes_from, processes_of, begins_at, ends_at}
use Rattle.stretch.specs.Inside.Measured.{measured}
use Rattle.stretch.specs.Reported.{process_at, AtMost, AnswerSays}
use Rattle.stretch.proofs.Reports.{measured_reported}

length_processes : (cells : List ℕ) (from : ℕ) (es : List ℕ) → length (processes_from cells from es) ≡ length es
unfolding processes_from
length_processes cells from [] = refl
length_processes cells from (e ∷ es) = ap suc (length_processes cells e es)

process_from : (cells : List ℕ) (from : ℕ) (es : List ℕ) (i : ℕ) → i < length es
    → process_at (processes_from cells from es) i ≡ marks_between cells (get_or (from ∷ es) i 0) (get_or es i 0)
unfolding processes_from
process_from cells from [] i h = absurd (omega arith)
process_from cells from (e ∷ es) zero h = refl
process_from cells from (e ∷ es) (suc i) h = process_from cells e es i (omega arith)

get_d_begin : (n : ℕ) (es : List ℕ) (i : ℕ) → i < n → get_or (0 ∷ take n es) i 0 ≡ get_or (0 ∷ es) i 0
get_d_begin n es zero h = refl
get_d_begin n es (suc i) h = get_or-take n es i 0 (omega arith)

module _ (cells : List ℕ) (heads : Heads) (i : ℕ) (h : i < heads.processes) (l : i < length heads.ends) where
  inside : i < length (processes_of cells heads)
  unfolding processes_of
  inside = omega (arith, length_processes cells 0 (take heads.processes heads.ends), length-take heads.processes heads.ends)

  pub process_between : process_at (processes_of cells heads) i ≡ marks_between cells (begins_at heads i) (ends_at heads i)
  unfolding processes_of
  process_between =
      process_from cells 0 (take heads.processes heads.ends) i (omega (arith, length-take heads.processes heads.ends))
      ∙ ap₂ (marks_between cells) (get_d_begin heads.processes heads.ends i h) (get_or-take heads.processes heads.ends i 0 h)

  -- its loops nest, and its stretch is at most k
  pub measured_each : {k : ℕ} → measured cells heads ≡ Ok k → AtMost (marks_between cells (begins_at heads i) (ends_at heads i)) k
  unfolding AnswerSays
  measured_each e = rw process_between at ((subst (AnswerSays (processes_of cells heads)) e (measured_reported cells heads)).each i inside)
