-- One process after the other: what the loop over them keeps, and what each answer of a process does to it. Assumes nothing.
use mathlib.Core.Path.{◌≡◌, refl, ap, sym, subst, ◌∙◌}
use mathlib.Core.Bool.{Bool, true, false, cond}
use mathlib.Core.List.{List, ◌∷◌, map}
use Prim.Native.Nat.{ℕ, ◌+◌, ◌≤◌, ◌<◌, max, min}
use native.Mathlib.Decide.{dec_le}
use native.Mathlib.Numerals.{add-one}
use native.Mathlib.Omega.{arith}
use lib.ListN.{length, get_or, take, drop, length-take, drop_of_length-le}
use lib.Seq.{drop-cons, take_all}
use borrow.Author.Tests.{le-leb, lt-leb}
use Rattle.figures.specs.declared.Figures.{Figures}
use Rattle.figures.specs.Flat.{Mark, deepest, marks_nest}
use Rattle.figures.specs.Cap.{limit}
use Rattle.std.specs.Prelude.{Option, Some, None, Result, Ok, Err}
use Rattle.stretch.specs.declared.StretchFault.{StretchFault}
use Rattle.stretch.specs.declared.StretchFault.TheVariants.{Over, Broken}
use Rattle.stretch.specs.declared.Ran.{Ran}
use Rattle.stretch.specs.Marks.{word_mark, marks_between, processes_from, marks_to}
use Rattle.stretch.specs.Inside.Measured.{stretch_in, alone, measured_from}
use Rattle.stretch.specs.Inside.Scan.{RunTells}
use Rattle.stretch.proofs.Marking.{marks_between_lem}

-- ---- a process by its places

-- places after the last cell add nothing
pub take_clip : (n k : ℕ) (l : List ℕ) → k ≡ min n (length l) → take k l ≡ take n l
take_clip n k l e = elim (dec_le n (length l)) [
  | yes h ↦ (let m : k ≡ n = omega arith in rw m)
  | no h ↦ take_all k l (omega arith) ∙ sym (take_all n l (omega arith))
]

drop_clip : (n k : ℕ) (l : List ℕ) → k ≡ min n (length l) → drop k l ≡ drop n l
drop_clip n k l e = elim (dec_le n (length l)) [
  | yes h ↦ (let m : k ≡ n = omega arith in rw m)
  | no h ↦ drop_of_length-le l {i = k} (omega arith) ∙ sym (drop_of_length-le l {i = n} (omega arith))
]

module _ (cells : List ℕ) (from end first behind : ℕ) (b : behind ≡ min end (length cells)) (f : first ≡ min from behind) where
  pub clipped : marks_between cells first behind ≡ marks_between cells from end
  unfolding marks_between
  clipped =
      ap (map word_mark)
      (drop_clip from first (take behind cells) (omega (arith, length-take behind cells)) ∙ ap (drop from) (take_clip end behind cells b))

  -- what a scan of its marks tells
  abbrev Told : Option Ran → Type 0
  Told = RunTells (marks_to cells behind) first deepest

  module _ (r : Option Ran) (t : Told r) where
    pub alone_nests : (found : Ran) → r ≡ Some found → Some found.figures.longest ≡ alone (marks_between cells from end)
    alone_nests found e =
        let s = subst Told e t in
        let f : stretch_in (drop first (marks_to cells behind)) ≡ found.figures.longest = sym (ap (λ (a : Figures). a.longest) s.exact) in
        rw (← clipped, ← marks_between_lem cells behind first, s.nests, f)

    pub alone_strays : r ≡ None → None ≡ alone (marks_between cells from end)
    alone_strays e = rw (← clipped, ← marks_between_lem cells behind first, subst Told e t)

-- ---- one after the other

-- what a process by itself tells of its marks
nests_told : (t : Bool) (s k : ℕ) → cond t (Some s) None ≡ Some k → (t ≡ true) × (s ≡ k)
nests_told true s k e = (refl, cc)
nests_told false s k e = let z : ◌≡◌ {A = ℕ} 0 1 = cc in absurd (omega arith)

strays_told : (t : Bool) (s : ℕ) → cond t (Some s) None ≡ None → t ≡ false
strays_told true s e = let z : ◌≡◌ {A = ℕ} 0 1 = cc in absurd (omega arith)
strays_told false s e = refl

-- what is answered of the processes that end at these places
abbrev pub answered : List ℕ → List ℕ → Result ℕ StretchFault
answered cells es = measured_from 1 0 (processes_from cells 0 es)

-- What the loop keeps: what is answered of the rest, from the place i on, is what is answered of all.
pub record Measuring (cells es : List ℕ) (best from i : ℕ) : Type 0 where
  pub same : measured_from (i + 1) best (processes_from cells from (drop i es)) ≡ answered cells es

module _ (cells es : List ℕ) where
  pub measuring_starts : Measuring cells es 0 0 0
  measuring_starts = record { same = refl }

  module _ (best from i : ℕ) (m : Measuring cells es best from i) where
    abbrev rest : List ℕ → Result ℕ StretchFault
    rest l = measured_from (i + 1) best (processes_from cells from l)

    pub measuring_past : length es ≤ i → Ok best ≡ answered cells es
    unfolding measured_from processes_from
    measuring_past h = sym (ap rest (drop_of_length-le es {i = i} h)) ∙ m.same

    module _ (h : i < length es) (end : ℕ) (e : end ≡ get_or es i 0) where
      abbrev one : List Mark
      one = marks_between cells from end

      next : drop i es ≡ end ∷ drop (i + 1) es
      next = drop-cons es i 0 h ∙ rw (e, add-one i)

      same_here : rest (end ∷ drop (i + 1) es) ≡ answered cells es
      same_here = ap rest (sym next) ∙ m.same

      module _ (found : Option ℕ) (a : found ≡ alone one) where
        module _ (k : ℕ) (n : found ≡ Some k) where
          told : (marks_nest 0 one ≡ true) × (stretch_in one ≡ k)
          told = nests_told (marks_nest 0 one) (stretch_in one) k (sym a ∙ n)

          pub measuring_on : k ≤ limit → Measuring cells es (max best k) end (i + 1)
          unfolding measured_from processes_from
          measuring_on l = record { same = sym (rw (told.0, told.1, le-leb k limit l)) ∙ same_here }

          pub measuring_over : limit < k → Err (Over (i + 1)) ≡ answered cells es
          unfolding measured_from processes_from
          measuring_over l = sym (rw (told.0, told.1, lt-leb k limit l)) ∙ same_here

        pub measuring_strays : found ≡ None → Err Broken ≡ answered cells es
        unfolding measured_from processes_from
        measuring_strays n = sym (rw (strays_told (marks_nest 0 one) (stretch_in one) (sym a ∙ n))) ∙ same_here
