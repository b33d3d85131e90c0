-- Fragments joined end to end: figures of the whole follow from those of its parts, and the empty fragment changes nothing. Assumes nothing.
use mathlib.Core.Path.{◌≡◌, refl, ap, ap₂, sym, ◌∙◌}
use mathlib.Core.List.{[], ◌∷◌, ◌++◌, append_assoc}
use Prim.Native.Nat.{ℕ, ◌≤◌}
use native.Mathlib.Omega.{arith}
use Rattle.figures.specs.declared.Figures.{Figures}
use Rattle.figures.specs.Fragment.{Fragment, stop, other, rest, loop}
use Rattle.figures.specs.Inside.Fragments.{glue}
use Rattle.figures.specs.Written.{busy, repeated, written}
use Rattle.figures.specs.Cap.{over}
use Rattle.figures.specs.Figures.{capped, join, joined_capped, empty, one_statement, never, copies_capped, looped, figures}
use Rattle.figures.specs.Inside.ReadOff.{read_off}
use Rattle.figures.proofs.Capping.{joined_capped_left, joined_assoc}
use Rattle.figures.proofs.Telling.{told_right}
use Rattle.figures.proofs.Writing.{told_joined, told_looped, figures_written}

-- fragments themselves
pub glue_stop : (p : Fragment) → glue p stop ≡ p
unfolding glue
glue_stop stop = refl
glue_stop (other p) = ap other (glue_stop p)
glue_stop (rest p) = ap rest (glue_stop p)
glue_stop (loop n b p) = ap (loop n b) (glue_stop p)

pub glue_assoc : (p q r : Fragment) → glue (glue p q) r ≡ glue p (glue q r)
unfolding glue
glue_assoc stop q r = refl
glue_assoc (other p) q r = ap other (glue_assoc p q r)
glue_assoc (rest p) q r = ap rest (glue_assoc p q r)
glue_assoc (loop n b p) q r = ap (loop n b) (glue_assoc p q r)

pub written_glue : (m : ℕ) (p q : Fragment) → written m (glue p q) ≡ written m p ++ written m q
unfolding written glue
written_glue m stop q = refl
written_glue m (other p) q = rw (written_glue m p q)
written_glue m (rest p) q = rw (written_glue m p q)
written_glue m (loop n b p) q = rw (written_glue m p q, append_assoc (repeated m n (written m b ++ (busy ∷ []))))

-- THE LAW of gluing
pub figures_glue : (p q : Fragment) → figures (glue p q) ≡ joined_capped (figures p) (figures q)
figures_glue p q =
    let h : over ≤ over = omega arith in
    figures_written over h (glue p q) ∙ ap (λ xs. capped (read_off xs)) (written_glue over p q)
    ∙ sym (told_joined (written over p) (written over q))
    ∙ sym (ap₂ joined_capped (figures_written over h p) (figures_written over h q))

-- the empty fragment changes nothing, on either side
pub empty_left : (p : Fragment) → joined_capped empty (figures p) ≡ figures p
unfolding figures glue
empty_left p = sym (figures_glue stop p)

pub empty_right : (p : Fragment) → joined_capped (figures p) empty ≡ figures p
unfolding figures
empty_right p = sym (figures_glue p stop) ∙ ap figures (glue_stop p)

-- after a forever loop nothing counts
pub after_forever : (a b : Figures) → joined_capped (looped 0 a) b ≡ looped 0 a
unfolding looped
after_forever a b = joined_assoc (copies_capped over (joined_capped a one_statement)) never b ∙ (unfold join capped in refl)

pub figures_forever : (b p : Fragment) → figures (loop 0 b p) ≡ joined_capped one_statement (looped 0 (figures b))
unfolding figures
figures_forever b p = ap (joined_capped one_statement) (after_forever (figures b) (figures p))

-- after the passes of a loop the empty fragment changes nothing either
pub looped_right : (n : ℕ) (b : Fragment) → joined_capped (looped n (figures b)) empty ≡ looped n (figures b)
looped_right n b =
    let h : over ≤ over = omega arith in
    rw (figures_written over h b, told_looped over n (written over b) h)
    (joined_capped_left (read_off (repeated over n (written over b ++ (busy ∷ [])))) empty ∙ ap capped (told_right (repeated over n (written over b ++ (busy ∷ [])))))
