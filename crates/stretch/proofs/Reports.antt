-- What is answered of a table is right, and nothing else is. Assumes nothing.
use mathlib.Core.Path.{◌≡◌, refl, ap, sym, ◌∙◌}
use mathlib.Core.Bool.{true, false, true≢false}
use mathlib.Core.List.{List, [], ◌∷◌}
use mathlib.Core.Logic.{◌⊎◌, inl, inr, ⊎_elim}
use Prim.Native.Nat.{ℕ, ◌+◌, ◌≤◌, ◌<◌, max}
use native.Mathlib.Decide.{dec_le, dec_lt}
use native.Mathlib.Nat.{le_antisymm}
use native.Mathlib.Numerals.{add-one}
use native.Mathlib.Omega.{arith}
use lib.Dec.{leb}
use lib.ListN.{length, drop, length-drop}
use lib.Seq.{drop-cons}
use borrow.Author.Tests.{leb-true, leb-false}
use Rattle.reader.proofs.Tests.{by_cases}
use Rattle.figures.specs.Flat.{Mark, fragment, marks_nest}
use Rattle.figures.specs.Stretch as figures
use Rattle.figures.specs.Cap.{limit}
use Rattle.figures.proofs.Stretches.{stretch_is, over_is, one_stretch, over_less}
use Rattle.language.specs.declared.Heads.{Heads}
use Rattle.std.specs.Prelude.{Result, Ok, Err}
use Rattle.stretch.specs.declared.StretchFault.{StretchFault}
use Rattle.stretch.specs.declared.StretchFault.TheVariants.{Over, Broken}
use Rattle.stretch.specs.Marks.{processes_of}
use Rattle.stretch.specs.Inside.Measured.{stretch_in, measured_from, measured}
use Rattle.stretch.specs.Reported.{process_at, HasStretch, AtMost, Reached, Most, Exceeds, Breaks, AnswerSays, Reported}

-- ---- what is answered is right

-- a stretch that is at most j is at most k
within_more : {p : List Mark} {j k : ℕ} → AtMost p j → j ≤ k → AtMost p k
within_more w h = record { stretch = w.stretch; fits = w.fits; most = omega (arith, w.most) }

module _ (ps : List (List Mark)) where
  most_none : Most ps 0 0
  most_none = record { each = λ i h. absurd (omega arith); reached = inl refl }

  reached_more : {n k : ℕ} → Reached ps n k → Reached ps (n + 1) k
  reached_more r = record { place = r.place; inside = omega (arith, r.inside); fits = r.fits }

  module _ (n best k : ℕ) (m : Most ps n best) (f : HasStretch (process_at ps n) k) where
    each_more : (i : ℕ) → i < n + 1 → AtMost (process_at ps i) (max best k)
    each_more i h = elim (dec_lt i n) [
      | yes l ↦ within_more (m.each i l) (omega arith)
      | no l ↦ (let e : n ≡ i = omega arith in record { stretch = k; fits = rw e at f; most = omega arith })
    ]

    reached_max : (max best k ≡ 0) ⊎ Reached ps (n + 1) (max best k)
    reached_max = elim (dec_le best k) [
      | yes h ↦ (let e : max best k ≡ k = omega arith in inr (rw e (record { place = n; inside = omega arith; fits = f })))
      | no h ↦ (let e : max best k ≡ best = omega arith in rw e (⊎_elim inl (λ r. inr (reached_more r)) m.reached))
    ]

    -- one process more
    most_more : Most ps (n + 1) (max best k)
    most_more = record { each = each_more; reached = reached_max }

  -- the rest of the processes: the one at the place i, and those after it
  first_left : (i : ℕ) (q : List Mark) (qs : List (List Mark)) → q ∷ qs ≡ drop i ps → i < length ps
  first_left i q qs e = omega (arith, length-drop i ps, ap length e)

  rest_left : (i : ℕ) (q : List Mark) (qs : List (List Mark)) → q ∷ qs ≡ drop i ps → q ∷ qs ≡ process_at ps i ∷ drop (i + 1) ps
  rest_left i q qs e = e ∙ drop-cons ps i [] (first_left i q qs e) ∙ rw (add-one i)

  says_from : (qs : List (List Mark)) (i best : ℕ) → qs ≡ drop i ps → i ≤ length ps → best ≤ limit → Most ps i best
      → AnswerSays ps (measured_from (i + 1) best qs)
  unfolding measured_from AnswerSays
  says_from [] i best e h l m = let n : i ≡ length ps = omega (arith, length-drop i ps, ap length e) in rw n at m
  says_from (q ∷ qs) i best e h l m =
      let c : q ∷ qs ≡ process_at ps i ∷ drop (i + 1) ps = rest_left i q qs e in
      let here : process_at ps i ≡ q = cc in
      let behind : qs ≡ drop (i + 1) ps = cc in
      let inside : i < length ps = first_left i q qs e in
      let earlier : (j : ℕ) → j < i → AtMost (process_at ps j) limit = λ j k. within_more (m.each j k) l in
      by_cases (AnswerSays ps) (marks_nest 0 q) _ _
      (λ n.
      let nested : marks_nest 0 (process_at ps i) ≡ true = rw here n in
      by_cases (AnswerSays ps) (leb (stretch_in q) limit) _ _
      (λ s.
      let low : stretch_in q ≤ limit = leb-true (stretch_in q) limit s in
      let fits : HasStretch (process_at ps i) (stretch_in q) = rw here (record { nested = n; exact = stretch_is (fragment q) low; low = low }) in
      says_from qs (i + 1) (max best (stretch_in q)) behind (omega arith) (omega arith) (most_more i best (stretch_in q) m fits))
      (λ s. record { place = i; numbered = refl; inside = inside; earlier = earlier; nested = nested; over = rw here (over_is (fragment q) (leb-false (stretch_in q) limit s)) }))
      (λ n. record { place = i; inside = inside; earlier = earlier; strays = rw here n })

  pub says_measured : AnswerSays ps (measured_from 1 0 ps)
  says_measured = says_from ps 0 0 refl (omega arith) (omega arith) most_none

-- ---- nothing else is

abbrev over : ℕ → Result ℕ StretchFault
over n = Err (Over n)

not_both : {p : List Mark} {k : ℕ} → AtMost p k → figures.Over (fragment p) limit → ⊥
not_both {p} w o = omega (arith, over_less (fragment p) o w.fits.exact, w.fits.low)

nests_both : {p : List Mark} {k : ℕ} → AtMost p k → marks_nest 0 p ≡ false → ⊥
nests_both w s = true≢false (sym w.fits.nested ∙ s)

module _ (ps : List (List Mark)) where
  largest_less : {j k : ℕ} → Most ps (length ps) j → Most ps (length ps) k → j ≤ k
  largest_less {j} {k} a b =
      ⊎_elim (λ z. omega arith)
      (λ r. let w = b.each r.place r.inside in omega (arith, one_stretch (fragment (process_at ps r.place)) r.fits.exact w.fits.exact, w.most))
      a.reached

  -- no process before one that exceeds or breaks exceeds or breaks
  over_late : (i j : ℕ) → ((n : ℕ) → n < j → AtMost (process_at ps n) limit) → figures.Over (fragment (process_at ps i)) limit → j ≤ i
  over_late i j earlier o = elim (dec_lt i j) [ yes h ↦ absurd (not_both (earlier i h) o) | no h ↦ omega arith ]

  breaks_late : (i j : ℕ) → ((n : ℕ) → n < j → AtMost (process_at ps n) limit) → marks_nest 0 (process_at ps i) ≡ false → j ≤ i
  breaks_late i j earlier s = elim (dec_lt i j) [ yes h ↦ absurd (nests_both (earlier i h) s) | no h ↦ omega arith ]

  over_breaks : (n : ℕ) → Exceeds ps n → Breaks ps → ⊥
  over_breaks n s t =
      let e : s.place ≡ t.place =
      omega (arith, over_late s.place t.place t.earlier s.over, breaks_late t.place s.place s.earlier t.strays)
      in
      true≢false (sym s.nested ∙ rw e t.strays)

  pub one_report : (a b : Result ℕ StretchFault) → AnswerSays ps a → AnswerSays ps b → a ≡ b
  unfolding AnswerSays
  one_report (Ok j) (Ok k) s t = ap Ok (le_antisymm (largest_less s t) (largest_less t s))
  one_report (Ok j) (Err (Over n)) s t = absurd (not_both (s.each t.place t.inside) t.over)
  one_report (Ok j) (Err Broken) s t = absurd (nests_both (s.each t.place t.inside) t.strays)
  one_report (Err (Over n)) (Ok k) s t = absurd (not_both (t.each s.place s.inside) s.over)
  one_report (Err (Over n)) (Err (Over m)) s t =
      ap over
      (omega (arith, over_late s.place t.place t.earlier s.over, over_late t.place s.place s.earlier t.over, s.numbered, t.numbered))
  one_report (Err (Over n)) (Err Broken) s t = absurd (over_breaks n s t)
  one_report (Err Broken) (Ok k) s t = absurd (nests_both (t.each s.place s.inside) s.strays)
  one_report (Err Broken) (Err (Over m)) s t = absurd (over_breaks m t s)
  one_report (Err Broken) (Err Broken) s t = refl

-- ---- of a table

module _ (cells : List ℕ) (heads : Heads) where
  pub measured_reported : Reported cells heads (measured cells heads)
  measured_reported = says_measured (processes_of cells heads)

  pub one_answer : (a b : Result ℕ StretchFault) → Reported cells heads a → Reported cells heads b → a ≡ b
  one_answer = one_report (processes_of cells heads)
