-- The cells of each process of a table whose words fit: they fit, read from any of its places on. Assumes nothing.
use mathlib.Core.Path.{◌≡◌, refl, sym, ap, ◌∙◌}
use mathlib.Core.Bool.{true, ◌&&◌}
use mathlib.Core.List.{List, [], ◌∷◌}
use Prim.Native.Nat.{ℕ, zero, suc, ◌≤◌, ◌<◌}
use native.Mathlib.Omega.{arith}
use lib.Dec.{leb}
use lib.ListN.{length, get_or, take, drop, take-append-drop}
use lib.Seq.{slice, take-take, get_or-take}
use borrow.Author.Tests.{leb-true}
use Rattle.reader.proofs.Tests.{both_left, both_right}
use Rattle.language.specs.Limits.{lines_limit, data_limit}
use Rattle.accepted.specs.Inside.Cells.{words_fit, words_end}
use Rattle.accepted.specs.Inside.Heads.{rising, last_end}
use Rattle.accepted.proofs.Bodies.{fit_append, end_append, last_rises}
use Rattle.bounded.proofs.Joining.{end_rises}
use Rattle.bounded.proofs.Moves.{Fits}

-- ---- words that fit, without some at the end or at the front

module _ (pool : List ℕ) (n at : ℕ) (ws : List ℕ) where
  fit_parts : words_fit pool at ws ≡ true → (words_fit pool at (take n ws) && words_fit pool (words_end at (take n ws)) (drop n ws)) ≡ true
  fit_parts h = sym (ap (words_fit pool at) (sym (take-append-drop n ws)) ∙ fit_append pool (take n ws) (drop n ws) at) ∙ h

  fit_take : words_fit pool at ws ≡ true → words_fit pool at (take n ws) ≡ true
  fit_take h = both_left (words_fit pool at (take n ws)) _ (fit_parts h)

  fit_drop : words_fit pool at ws ≡ true → words_fit pool (words_end at (take n ws)) (drop n ws) ≡ true
  fit_drop h = both_right (words_fit pool at (take n ws)) _ (fit_parts h)

  end_parts : words_end at ws ≡ words_end (words_end at (take n ws)) (drop n ws)
  end_parts = ap (words_end at) (sym (take-append-drop n ws)) ∙ end_append (take n ws) (drop n ws) at

-- from the place i up to the place e, where the first u words fit
pub slice_fits : (cells pool : List ℕ) (i e u : ℕ) → e ≤ u → words_fit pool 0 (take u cells) ≡ true → words_end 0 (take u cells) ≤ data_limit → Fits pool (slice i e cells)
slice_fits cells pool i e u l h b =
    let short : take e (take u cells) ≡ take e cells = take-take e u cells l in
    let fits : words_fit pool 0 (take e cells) ≡ true = rw short at (fit_take pool e 0 (take u cells) h) in
    let few : words_end 0 (take e cells) ≤ words_end 0 (take u cells) =
    rw (end_parts pool e 0 (take u cells), short) (end_rises (drop e (take u cells)) (words_end 0 (take e cells)))
    in
    record {
      from = words_end 0 (take i (take e cells));
      fit = fit_drop pool i 0 (take e cells) fits;
      within = rw (← end_parts pool i 0 (take e cells)) (omega arith);
    }

-- ---- ends that rise

-- a process begins no later than it ends, ends within the table, and no later than the last
pub record Between (from e last : ℕ) : Type 0 where
  pub order : from ≤ e
  pub small : e ≤ lines_limit
  pub most : e ≤ last

pub rising_at : (es : List ℕ) (from i : ℕ) → rising from es ≡ true → i < length es → Between (get_or (from ∷ es) i 0) (get_or es i 0) (last_end from es)
unfolding rising last_end
rising_at [] from i h l = absurd (omega arith)
rising_at (e ∷ es) from zero h l =
    let r = both_right (leb from e) _ h in
    record {
      order = leb-true from e (both_left (leb from e) _ h);
      small = leb-true e lines_limit (both_left (leb e lines_limit) _ r);
      most = last_rises es e (both_right (leb e lines_limit) _ r);
    }
rising_at (e ∷ es) from (suc i) h l = rising_at es e i (both_right (leb e lines_limit) _ (both_right (leb from e) _ h)) (omega arith)

pub get_d_first : (n : ℕ) (es : List ℕ) (i : ℕ) → i < n → get_or (0 ∷ take n es) i 0 ≡ get_or (0 ∷ es) i 0
get_d_first n es zero h = refl
get_d_first n es (suc i) h = get_or-take n es i 0 (omega arith)
