-- What the draft keeps of the body that is to be listed. Assumes nothing.
use Prim.Native.Nat.{ℕ, ◌+◌, ◌≤◌}
use mathlib.Core.Path.{◌≡◌}
use mathlib.Core.Bool.{Bool, true, false, cond}
use mathlib.Core.List.{List, [], ◌∷◌, ◌++◌}
use native.Mathlib.Omega.{arith}
use lib.ListN.{length, length-append}
use borrow.Author.Tests.{ltb-true}
use Rattle.reader.proofs.Tests.{both, both_left, both_right}
use Rattle.language.specs.Limits.{lines_limit, data_limit, loop_limit, process_limit}
use Rattle.language.specs.Script.{Statement, Item, does, next, Shape, opens, closes, stays}
use Rattle.language.specs.Listing.{body_lines, setting_lines}
use Rattle.language.specs.Right.{right, all_right, data_in, nexts_in, may_nest, depth_after, nests}
use Rattle.language.specs.Draft.{Draft}
use Rattle.language.proofs.Folding.{items_length}
use Rattle.language.proofs.Good.{RightSettings}

-- Assumes nothing.

-- how many lines the body needs: a first process that is empty takes a PROCESS line of its own
unfoldable pub needs : Bool → List Item → ℕ
needs begun [] = cond begun 1 0
needs begun (does s ∷ is) = 1 + length is
needs begun (next ∷ is) = 2 + length is

-- what holds of the draft between lines; `spare` lines are counted and not yet used
pub record Sound (spare : ℕ) (st : Draft) : Type 0 where
  pub settings : RightSettings st.settings
  pub rights : all_right st.body ≡ true
  pub used : st.used ≡ data_in st.body
  pub bytes : st.used ≤ data_limit
  pub nested : (rest : List Item) → nests (st.body ++ rest) 0 ≡ nests rest (length st.loops)
  pub deep : length st.loops ≤ loop_limit
  pub count : st.count ≡ 1 + nexts_in st.body
  pub few : st.count ≤ process_limit
  pub lines : length (setting_lines st.settings) + needs st.begun st.body + spare ≤ st.counted
  pub counted : st.counted ≤ lines_limit

-- ---- laws of the body

pub rights_snoc : (is : List Item) (i : Item) → all_right is ≡ true → all_right (i ∷ []) ≡ true → all_right (is ++ i ∷ []) ≡ true
unfolding all_right
rights_snoc [] i h r = r
rights_snoc (does x ∷ is) i h r =
    both (right x) (all_right (is ++ i ∷ [])) (both_left (right x) (all_right is) h) (rights_snoc is i (both_right (right x) (all_right is) h) r)
rights_snoc (next ∷ is) i h r = rights_snoc is i h r

pub data_snoc : (is : List Item) (i : Item) → data_in (is ++ i ∷ []) ≡ data_in is + data_in (i ∷ [])
unfolding data_in
data_snoc [] i = omega arith
data_snoc (does s ∷ is) i = omega (arith, data_snoc is i)
data_snoc (next ∷ is) i = data_snoc is i

pub nexts_snoc : (is : List Item) (i : Item) → nexts_in (is ++ i ∷ []) ≡ nexts_in is + nexts_in (i ∷ [])
unfolding nexts_in
nexts_snoc [] i = omega arith
nexts_snoc (does s ∷ is) i = nexts_snoc is i
nexts_snoc (next ∷ is) i = omega (arith, nexts_snoc is i)

pub needs_does : (begun : Bool) (is : List Item) (s : Statement) → needs true (is ++ does s ∷ []) ≤ needs begun is + 1
unfolding needs
needs_does begun [] s = omega arith
needs_does begun (does x ∷ is) s = omega (arith, length-append is (does s ∷ []))
needs_does begun (next ∷ is) s = omega (arith, length-append is (does s ∷ []))

pub needs_next : (is : List Item) → needs true (is ++ next ∷ []) ≤ needs true is + 1
unfolding needs
needs_next [] = omega arith
needs_next (does x ∷ is) = omega (arith, length-append is (next ∷ []))
needs_next (next ∷ is) = omega (arith, length-append is (next ∷ []))

pub needs_first : (is : List Item) → needs true is ≤ needs false is + 1
unfolding needs
needs_first [] = omega arith
needs_first (does x ∷ is) = omega arith
needs_first (next ∷ is) = omega arith

pub needs_listed : (begun : Bool) (is : List Item) → length (body_lines is) ≤ needs begun is
unfolding needs body_lines
needs_listed begun [] = omega arith
needs_listed begun (does s ∷ is) = omega (arith, items_length (does s ∷ is))
needs_listed begun (next ∷ is) = omega (arith, items_length (next ∷ is))

-- a statement that may stand leaves at most eight loops open
pub deeper : (sh : Shape) (depth : ℕ) → may_nest sh depth ≡ true → depth ≤ loop_limit → depth_after sh depth ≤ loop_limit
unfolding may_nest depth_after
deeper stays depth m h = h
deeper opens depth m h = omega (arith, ltb-true depth loop_limit m)
deeper closes depth m h = omega arith
