-- A body with one more item: its words, its data and the ends of its processes. Assumes nothing.
use Prim.Native.Nat.{ℕ, ◌+◌}
use mathlib.Core.Path.{◌≡◌, refl, ap, ◌∙◌}
use mathlib.Core.List.{List, [], ◌∷◌, ◌++◌, append-nil, append_assoc}
use native.Mathlib.Omega.{arith}
use lib.ListN.{length, length-append}
use Rattle.language.specs.Script.{Statement, Item, does, next, data_of}
use Rattle.language.specs.Cell.{coded}
use Rattle.language.specs.Table.{cell_for, words_from, pool_of, ends_from}

pub pool_does : (is : List Item) (s : Statement) → pool_of (is ++ does s ∷ []) ≡ pool_of is ++ data_of s
unfolding pool_of
pool_does [] s = append-nil (data_of s)
pool_does (does x ∷ is) s = rw (pool_does is s, append_assoc)
pool_does (next ∷ is) s = pool_does is s

pub pool_next : (is : List Item) → pool_of (is ++ next ∷ []) ≡ pool_of is
unfolding pool_of
pool_next [] = refl
pool_next (does x ∷ is) = ap (λ (l : List ℕ). data_of x ++ l) (pool_next is)
pool_next (next ∷ is) = pool_next is

pub words_does : (at : ℕ) (is : List Item) (s : Statement)
    → words_from at (is ++ does s ∷ []) ≡ words_from at is ++ coded (cell_for (at + length (pool_of is)) s) ∷ []
unfolding words_from pool_of
words_does at [] s = let e : at ≡ at + 0 = omega arith in ap (λ (n : ℕ). coded (cell_for n s) ∷ []) e
words_does at (does x ∷ is) s =
    let e : at + length (data_of x) + length (pool_of is) ≡ at + length (data_of x ++ pool_of is) = simp length-append (omega arith) in
    ap (λ (l : List ℕ). coded (cell_for at x) ∷ l) (words_does (at + length (data_of x)) is s ∙ rw e)
words_does at (next ∷ is) s = words_does at is s

pub words_next : (at : ℕ) (is : List Item) → words_from at (is ++ next ∷ []) ≡ words_from at is
unfolding words_from
words_next at [] = refl
words_next at (does x ∷ is) = ap (λ (l : List ℕ). coded (cell_for at x) ∷ l) (words_next (at + length (data_of x)) is)
words_next at (next ∷ is) = words_next at is

-- ---- the ends: those of the processes that are over, and that of the last

over : ℕ → List Item → List ℕ
over i [] = []
over i (does s ∷ is) = over (i + 1) is
over i (next ∷ is) = i ∷ over i is

ends_last : (i at : ℕ) (is : List Item) → ends_from i is ≡ over i is ++ (i + length (words_from at is)) ∷ []
unfolding over ends_from words_from
ends_last i at [] = let e : i ≡ i + 0 = omega arith in ap (λ (n : ℕ). n ∷ []) e
ends_last i at (does s ∷ is) = ends_last (i + 1) (at + length (data_of s)) is ∙ ap (λ (n : ℕ). over (i + 1) is ++ n ∷ []) (omega arith)
ends_last i at (next ∷ is) = ap (λ (l : List ℕ). i ∷ l) (ends_last i at is)

over_does : (i : ℕ) (is : List Item) (s : Statement) → over i (is ++ does s ∷ []) ≡ over i is
unfolding over
over_does i [] s = refl
over_does i (does x ∷ is) s = over_does (i + 1) is s
over_does i (next ∷ is) s = ap (λ (l : List ℕ). i ∷ l) (over_does i is s)

over_next : (i : ℕ) (is : List Item) → over i (is ++ next ∷ []) ≡ ends_from i is
unfolding over ends_from
over_next i [] = refl
over_next i (does x ∷ is) = over_next (i + 1) is
over_next i (next ∷ is) = ap (λ (l : List ℕ). i ∷ l) (over_next i is)

from_first : (is : List Item) → ends_from 0 is ≡ over 0 is ++ length (words_from 0 is) ∷ []
from_first is = let e : 0 + length (words_from 0 is) ≡ length (words_from 0 is) = omega arith in ends_last 0 0 is ∙ rw e

-- the last process is one cell longer
pub record Ends (is : List Item) (s : Statement) : Type 0 where
  pub before : List ℕ
  pub till : ends_from 0 is ≡ before ++ length (words_from 0 is) ∷ []
  pub now : ends_from 0 (is ++ does s ∷ []) ≡ before ++ (length (words_from 0 is) + 1) ∷ []

pub ends_does : (is : List Item) (s : Statement) → Ends is s
ends_does is s =
    let n : length (words_from 0 (is ++ does s ∷ [])) ≡ length (words_from 0 is) + 1 = rw (words_does 0 is s) (simp length-append (omega arith)) in
    record { before = over 0 is; till = from_first is; now = from_first (is ++ does s ∷ []) ∙ rw (over_does 0 is s, n) }

-- a further process begins where that one ends
pub ends_next : (is : List Item) → ends_from 0 (is ++ next ∷ []) ≡ ends_from 0 is ++ length (words_from 0 is) ∷ []
ends_next is = from_first (is ++ next ∷ []) ∙ rw (over_next 0 is, words_next 0 is)
