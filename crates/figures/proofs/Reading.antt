-- A fragment is read back from its marks, and marks that nest are those of their fragment. Assumes nothing.
use mathlib.Core.Path.{◌≡◌, refl, ap, ap₂, sym, ◌∙◌}
use mathlib.Core.Bool.{Bool, true, false, cond, false≢true}
use mathlib.Core.List.{List, [], ◌∷◌, ◌++◌, append-nil, append_assoc}
use Prim.Native.Nat.{ℕ, zero, suc}
use lib.Dec.{ltb}
use Rattle.figures.specs.Fragment.{Fragment, stop, other, rest, loop}
use Rattle.figures.specs.Inside.Fragments.{glue, marks}
use Rattle.figures.specs.Flat.{Mark, plain, sure_rest, opens, closes, here, beyond, mark_before, fragments, fragment, deepest, marks_nest}
use Rattle.figures.specs.Figures.{joined_capped, figures}
use Rattle.figures.proofs.Gluing.{glue_stop, figures_glue}

-- what is read of a fragment's marks and then of others: the fragment, glued to the one that comes first
pub record Back (p : Fragment) (ms : List Mark) : Type 0 where
  pub first : fragment (marks p ++ ms) ≡ glue p (fragment ms)
  pub behind : beyond (fragments (marks p ++ ms)) ≡ beyond (fragments ms)

pub back : (p : Fragment) (ms : List Mark) → Back p ms
unfolding fragments mark_before marks glue
back stop ms = record { first = refl; behind = refl }
back (other p) ms = record { first = ap other (back p ms).first; behind = (back p ms).behind }
back (rest p) ms = record { first = ap rest (back p ms).first; behind = (back p ms).behind }
back (loop n b p) ms =
    let r = back p ms in
    let s = back b (closes ∷ (marks p ++ ms)) in
    record {
      first = rw (append_assoc (marks b)) (ap₂ (loop n) (s.first ∙ glue_stop b) (ap here s.behind ∙ r.first));
      behind = rw (append_assoc (marks b)) (ap beyond s.behind ∙ r.behind);
    }

pub fragment_marks : (p : Fragment) → fragment (marks p) ≡ p
unfolding fragments
fragment_marks p = ap fragment (sym (append-nil (marks p))) ∙ (back p []).first ∙ glue_stop p

-- the marks of a stack with o loops open: each fragment but the last is followed by its END
unread : ℕ → List Fragment → List Mark
unread zero ps = marks (here ps)
unread (suc o) ps = marks (here ps) ++ (closes ∷ unread o (beyond ps))

unread_opens : (n o : ℕ) (ps : List Fragment) → unread o (mark_before (opens n) ps) ≡ opens n ∷ unread (suc o) ps
unfolding marks mark_before unread
unread_opens n zero ps = refl
unread_opens n (suc o) ps = rw (append_assoc (marks (here ps)))

unread_plain : (o : ℕ) (ps : List Fragment) → unread o (mark_before plain ps) ≡ plain ∷ unread o ps
unfolding marks mark_before unread
unread_plain zero ps = refl
unread_plain (suc o) ps = refl

unread_rest : (o : ℕ) (ps : List Fragment) → unread o (mark_before sure_rest ps) ≡ sure_rest ∷ unread o ps
unfolding marks mark_before unread
unread_rest zero ps = refl
unread_rest (suc o) ps = refl

unread_closes : (o : ℕ) (ps : List Fragment) → unread (suc o) (mark_before closes ps) ≡ closes ∷ unread o ps
unfolding marks mark_before unread
unread_closes o ps = refl

taken : (t : Bool) {b : Bool} → cond t b false ≡ true → b ≡ true
taken true h = h
taken false h = absurd (false≢true h)

unread_fragments : (o : ℕ) (ms : List Mark) → marks_nest o ms ≡ true → unread o (fragments ms) ≡ ms
unfolding marks_nest fragments
unread_fragments zero [] h = unfold marks unread in refl
unread_fragments (suc o) [] h = absurd (false≢true h)
unread_fragments o (plain ∷ ms) h = unread_plain o (fragments ms) ∙ ap (λ l. plain ∷ l) (unread_fragments o ms h)
unread_fragments o (sure_rest ∷ ms) h = unread_rest o (fragments ms) ∙ ap (λ l. sure_rest ∷ l) (unread_fragments o ms h)
unread_fragments o (opens n ∷ ms) h =
    unread_opens n o (fragments ms) ∙ ap (λ l. opens n ∷ l) (unread_fragments (suc o) ms (taken (ltb o deepest) h))
unread_fragments zero (closes ∷ ms) h = absurd (false≢true h)
unread_fragments (suc o) (closes ∷ ms) h = unread_closes o (fragments ms) ∙ ap (λ l. closes ∷ l) (unread_fragments o ms h)

pub marks_fragment : (ms : List Mark) → marks_nest 0 ms ≡ true → marks (fragment ms) ≡ ms
unfolding unread
marks_fragment ms h = unread_fragments 0 ms h

-- marks end to end
pub marks_glue : (p q : Fragment) → marks (glue p q) ≡ marks p ++ marks q
unfolding marks glue
marks_glue stop q = refl
marks_glue (other p) q = ap (λ l. plain ∷ l) (marks_glue p q)
marks_glue (rest p) q = ap (λ l. sure_rest ∷ l) (marks_glue p q)
marks_glue (loop n b p) q = rw (marks_glue p q, append_assoc (marks b))

pub fragment_append : (ms ns : List Mark) → marks_nest 0 ms ≡ true → fragment (ms ++ ns) ≡ glue (fragment ms) (fragment ns)
fragment_append ms ns h = ap (λ l. fragment (l ++ ns)) (sym (marks_fragment ms h)) ∙ (back (fragment ms) ns).first

pub figures_append : (ms ns : List Mark) → marks_nest 0 ms ≡ true → figures (fragment (ms ++ ns)) ≡ joined_capped (figures (fragment ms)) (figures (fragment ns))
figures_append ms ns h = ap figures (fragment_append ms ns h) ∙ figures_glue (fragment ms) (fragment ns)
