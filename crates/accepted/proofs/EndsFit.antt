-- The ways on of the pass over the ends, and what a pass that comes to a place has passed. Assumes nothing.
use Rattle.std.specs.Prelude.{Option, Some, None}
use Prim.Native.Nat.{ℕ, ◌+◌, ◌≤◌, ◌<◌, min}
use native.Mathlib.Decide.{dec_le}
use mathlib.Core.Path.{◌≡◌, refl, sym, ap, ◌∙◌}
use mathlib.Core.Bool.{Bool, true, false, ◌&&◌}
use mathlib.Core.List.{List}
use native.Mathlib.Numerals.{add-one}
use native.Mathlib.Omega.{arith}
use lib.ListN.{length, take, drop, get_or, drop_of_length-le}
use lib.Seq.{drop-cons, take_all}
use borrow.Author.Tests.{le-leb, lt-leb}
use Rattle.reader.proofs.Tests.{and_false}
use Rattle.language.specs.declared.Heads.{Heads}
use Rattle.language.specs.Limits.{lines_limit, process_limit}
use Rattle.accepted.specs.Inside.Heads.{all_zero, rising, last_end, ends_of, in_use, ends_right}
use Rattle.accepted.specs.Inside.EndsFit.{reaches, ends_reach}

-- places after the last one add nothing
pub take_clip : (n k : ℕ) (l : List ℕ) → k ≡ min n (length l) → take k l ≡ take n l
take_clip n k l e = elim (dec_le n (length l)) [
  | yes h ↦ (let m : k ≡ n = omega arith in rw m)
  | no h ↦ take_all k l (omega arith) ∙ sym (take_all n l (omega arith))
]

pub drop_clip : {A : Type 0} (n k : ℕ) (l : List A) → k ≡ min n (length l) → drop k l ≡ drop n l
drop_clip n k l e = elim (dec_le n (length l)) [
  | yes h ↦ (let m : k ≡ n = omega arith in rw m)
  | no h ↦ drop_of_length-le l {i = k} (omega arith) ∙ sym (drop_of_length-le l {i = n} (omega arith))
]

module _ (es : List ℕ) (last i : ℕ) where
  ends_done : length es ≤ i → ends_reach last (drop i es) ≡ Some last
  unfolding ends_reach rising last_end
  ends_done h = rw (drop_of_length-le es h)

  module _ (h : i < length es) where
    ends_fall : get_or es i 0 < last → ends_reach last (drop i es) ≡ None
    unfolding ends_reach rising last_end
    ends_fall l = rw (drop-cons es i 0 h, lt-leb last (get_or es i 0) l)

    ends_leave : last ≤ get_or es i 0 → lines_limit < get_or es i 0 → ends_reach last (drop i es) ≡ None
    unfolding ends_reach rising last_end
    ends_leave l m = rw (drop-cons es i 0 h, le-leb last (get_or es i 0) l, lt-leb (get_or es i 0) lines_limit m)

    ends_on : last ≤ get_or es i 0 → get_or es i 0 ≤ lines_limit → ends_reach last (drop i es) ≡ ends_reach (get_or es i 0) (drop (i + 1) es)
    unfolding ends_reach rising last_end
    ends_on l m = rw (drop-cons es i 0 h, le-leb last (get_or es i 0) l, le-leb (get_or es i 0) lines_limit m, add-one i)

-- the pass over some ends, at i of them: the ends from i on decide
pub record Passing (es : List ℕ) (last i : ℕ) : Type 0 where
  pub whole : ends_reach 0 es ≡ ends_reach last (drop i es)

module _ {es : List ℕ} {last i : ℕ} (w : Passing es last i) where
  pub pass_past : length es ≤ i → Some last ≡ ends_reach 0 es
  pass_past h = sym (w.whole ∙ ends_done es last i h)

  module _ {e : ℕ} (inside : i < length es) (is : e ≡ get_or es i 0) where
    pub pass_falls : e < last → None ≡ ends_reach 0 es
    pass_falls l = sym (w.whole ∙ ends_fall es last i inside (rw (sym is) l))

    pub pass_leaves : last ≤ e → lines_limit < e → None ≡ ends_reach 0 es
    pass_leaves l m = sym (w.whole ∙ ends_leave es last i inside (rw (sym is) l) (rw (sym is) m))

    pub pass_on : last ≤ e → e ≤ lines_limit → Passing es e (i + 1)
    pass_on l m = record { whole = w.whole ∙ (ends_on es last i inside (rw (sym is) l) (rw (sym is) m) ∙ ap (λ (k : ℕ). ends_reach k (drop (i + 1) es)) (sym is)) }

-- ---- the heads' ends

and-true : (t : Bool) → (t && true) ≡ t
and-true true = refl
and-true false = refl

module _ (h : Heads) where
  pub no_process : h.processes < 1 → None ≡ reaches (ends_right h) (in_use h)
  unfolding ends_right
  no_process l = rw (lt-leb 1 h.processes l)

  module _ (some : 1 ≤ h.processes) where
    pub many_processes : process_limit < h.processes → None ≡ reaches (ends_right h) (in_use h)
    unfolding ends_right
    many_processes l = rw (le-leb 1 h.processes some, lt-leb h.processes process_limit l)

    module _ (few : h.processes ≤ process_limit) {t : Bool} (told : t ≡ all_zero (drop h.processes h.ends)) where
      pub ends_behind : t ≡ false → None ≡ reaches (ends_right h) (in_use h)
      unfolding ends_right
      ends_behind e = rw (le-leb 1 h.processes some, le-leb h.processes process_limit few, sym told ∙ e, and_false (rising 0 (ends_of h)))

      pub ends_clean : t ≡ true → {r : Option ℕ} → r ≡ ends_reach 0 (ends_of h) → r ≡ reaches (ends_right h) (in_use h)
      unfolding ends_right ends_reach
      ends_clean e k = k ∙ rw (le-leb 1 h.processes some, le-leb h.processes process_limit few, sym told ∙ e, and-true (rising 0 (ends_of h)))

-- ---- what a pass has come to

pub reached_not : (t : Bool) (e : ℕ) → reaches t e ≡ None → t ≡ false
reached_not true e h = let z : ◌≡◌ {A = ℕ} 0 1 = cc in absurd (omega arith)
reached_not false e h = refl

pub record Reached (t : Bool) (e k : ℕ) : Type 0 where
  pub test : t ≡ true
  pub place : e ≡ k

pub reached_to : (t : Bool) (e k : ℕ) → reaches t e ≡ Some k → Reached t e k
reached_to true e k h = record { test = refl; place = cc }
reached_to false e k h = let z : ◌≡◌ {A = ℕ} 0 1 = cc in absurd (omega arith)
