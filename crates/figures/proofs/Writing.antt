-- THE LAW: the figures of a fragment are those of its written-out form. Assumes nothing.
use mathlib.Core.Path.{◌≡◌, refl, ap, sym, ◌∙◌}
use mathlib.Core.List.{List, [], ◌∷◌, ◌++◌}
use Prim.Native.Nat.{ℕ, zero, suc, ◌≤◌}
use native.Mathlib.Nat.{le_refl}
use Rattle.figures.specs.Fragment.{Fragment, stop, other, rest, loop}
use Rattle.figures.specs.Written.{Done, busy, sure, cut, repeated_times, repeated, written}
use Rattle.figures.specs.Cap.{over}
use Rattle.figures.specs.Figures.{capped, joined_capped, one_statement, one_rest, never, copies_capped, looped, figures}
use Rattle.figures.specs.Inside.ReadOff.{read_off}
use Rattle.figures.proofs.Capping.{capped_capped, joined_capped_lem}
use Rattle.figures.proofs.Copying.{again_power, copies_capped_lem, copies_many}
use Rattle.figures.proofs.Telling.{told_append, told_times, computing}

-- forms end to end
pub told_joined : (xs ys : List Done) → joined_capped (capped (read_off xs)) (capped (read_off ys)) ≡ capped (read_off (xs ++ ys))
told_joined xs ys = joined_capped_lem (read_off xs) (read_off ys) ∙ ap capped (sym (told_append xs ys))

-- a single statement before a form
busy_before : (xs : List Done) → joined_capped one_statement (capped (read_off xs)) ≡ capped (read_off (busy ∷ xs))
unfolding capped computing
busy_before xs = told_joined (busy ∷ []) xs

sure_before : (xs : List Done) → joined_capped one_rest (capped (read_off xs)) ≡ capped (read_off (sure ∷ xs))
unfolding capped computing
sure_before xs = told_joined (sure ∷ []) xs

-- END after a form, and the cut
end_behind : (xs : List Done) → joined_capped (capped (read_off xs)) one_statement ≡ capped (read_off (xs ++ (busy ∷ [])))
unfolding capped computing
end_behind xs = told_joined xs (busy ∷ [])

cut_behind : (xs : List Done) → joined_capped (capped (read_off xs)) never ≡ capped (read_off (xs ++ (cut ∷ [])))
unfolding capped computing
cut_behind xs = told_joined xs (cut ∷ [])

-- n passes, and all passes of a loop
told_copies : (n : ℕ) (xs : List Done) → copies_capped n (capped (read_off xs)) ≡ capped (read_off (repeated_times n xs))
told_copies n xs = copies_capped_lem n (read_off xs) ∙ ap capped (again_power n (read_off xs) ∙ sym (told_times n xs))

pub told_looped : (m n : ℕ) (xs : List Done) → over ≤ m → looped n (capped (read_off xs)) ≡ capped (read_off (repeated m n (xs ++ (busy ∷ []))))
unfolding repeated looped
told_looped m zero xs h =
    let ys = xs ++ (busy ∷ []) in
    rw (end_behind xs, ← copies_many m h (capped (read_off ys)), told_copies m ys) (cut_behind (repeated_times m ys))
told_looped m (suc n) xs h = rw (end_behind xs) (told_copies (suc n) (xs ++ (busy ∷ [])))

pub figures_written : (m : ℕ) → over ≤ m → (p : Fragment) → figures p ≡ capped (read_off (written m p))
unfolding figures written
figures_written m h stop = unfold capped computing in refl
figures_written m h (other p) = rw (figures_written m h p) (busy_before (written m p))
figures_written m h (rest p) = rw (figures_written m h p) (sure_before (written m p))
figures_written m h (loop n b p) =
    let ps = repeated m n (written m b ++ (busy ∷ [])) in
    rw (figures_written m h b, figures_written m h p, told_looped m n (written m b) h, told_joined ps (written m p)) (busy_before (ps ++ written m p))

-- so they are capped already
pub figures_capped : (p : Fragment) → capped (figures p) ≡ figures p
figures_capped p = rw (figures_written over (le_refl over) p) (capped_capped (read_off (written over p)))
