-- The fold over listed lines: each is taken, and adds its item. Assumes nothing.
use Prim.Native.Nat.{ℕ, suc, ◌+◌, ◌≤◌, ◌<◌}
use mathlib.Core.Path.{◌≡◌, refl, sym, ap, ◌∙◌}
use mathlib.Core.Bool.{true, false}
use mathlib.Core.List.{List, [], ◌∷◌, ◌++◌, append-nil}
use native.Mathlib.Omega.{arith}
use lib.Dec.{eqb}
use lib.ListN.{length}
use lib.Seq.{append_snoc}
use borrow.Author.Tests.{lt-ltb, le-ltb, le-leb, eqb-true}
use Rattle.reader.specs.Ascii.{ascii}
use Rattle.reader.proofs.Tests.{both_left, both_right, true_is_false}
use Rattle.language.specs.Limits.{line_limit, lines_limit, data_limit, process_limit}
use Rattle.language.specs.Script.{Statement, Meaning, says, process, Settings, Item, does, next, processes, Shape, opens, closes, stays, shape, data_of}
use Rattle.language.specs.Meaning.{meaning}
use Rattle.language.specs.Listing.{line_for, item_line, item_lines}
use Rattle.language.specs.Right.{right, all_right, data_in, nexts_in, may_nest, depth_after, nests}
use Rattle.language.specs.Draft.{Result, Draft, going, count_line, with_item, now, nest, take_nested, take_statement, with_next, with_first, beginning, take_process, take_meaning, take_counted, is_comment, take_line, stretched, finished, go_on, fold}
use Rattle.language.proofs.Back.{back}
use Rattle.language.proofs.Room.{fine}
use Rattle.language.proofs.Settings.{process_said, process_fine}

-- a line that is short enough and counts is taken by its meaning
pub line_taken_lem : (row : ℕ) (st : Draft) (l : List ℕ) (m : Meaning) → meaning l ≡ m → is_comment m ≡ false → length l ≤ line_limit → st.counted < lines_limit
    → take_line row st l ≡ take_meaning row (count_line st) m
unfolding take_line take_counted
line_taken_lem row st l m e c short few = rw (le-ltb line_limit (length l) short, e, c, lt-ltb st.counted lines_limit few)

-- loops nest
pub nest_right : (row : ℕ) (sh : Shape) (ls : List ℕ) → may_nest sh (length ls) ≡ true
    → (ls₁ : List ℕ) × (nest row sh ls ≡ now ls₁) × (length ls₁ ≡ depth_after sh (length ls))
unfolding nest may_nest depth_after
nest_right row opens ls h = (row ∷ ls, rw h, omega arith)
nest_right row closes [] h = true_is_false (sym h)
nest_right row closes (l ∷ ls) h = (ls, refl, omega arith)
nest_right row stays ls h = (ls, refl, refl)

module _ (row : ℕ) (st : Draft) (few : st.counted < lines_limit) where
  pub statement_taken : (s : Statement) (ls : List ℕ) → right s ≡ true → st.used + length (data_of s) ≤ data_limit → nest row (shape s) st.loops ≡ now ls
      → take_line row st (line_for s) ≡ going (with_item (count_line st) ls s)
  unfolding is_comment take_meaning take_statement count_line take_nested
  statement_taken s ls r u n =
      line_taken_lem row st (line_for s) (says s) (back s r) refl (fine s r).fits few
      ∙ rw (le-leb (st.used + length (data_of s)) data_limit u, n)

  pub next_taken : st.loops ≡ [] → st.begun ≡ true → st.count < process_limit → take_line row st (ascii "#PROCESS") ≡ going (with_next (count_line st))
  unfolding is_comment take_meaning count_line take_process beginning
  next_taken l b c =
      line_taken_lem row st (ascii "#PROCESS") process process_said refl process_fine.fits few
      ∙ rw (l, b, lt-ltb st.count process_limit c)

  pub first_taken : st.loops ≡ [] → st.begun ≡ false → take_line row st (ascii "#PROCESS") ≡ going (with_first (count_line st))
  unfolding is_comment take_meaning count_line take_process beginning
  first_taken l b =
      line_taken_lem row st (ascii "#PROCESS") process process_said refl process_fine.fits few
      ∙ rw (l, b)

none_open : (ls : List ℕ) → eqb (length ls) 0 ≡ true → ls ≡ []
none_open [] h = refl
none_open (l ∷ ls) h = absurd (omega (arith, eqb-true (length (l ∷ ls)) 0 h))

pub items_length : (is : List Item) → length (item_lines is) ≡ length is
unfolding item_lines
items_length [] = refl
items_length (i ∷ is) = ap suc (items_length is)

-- the items that can still be taken
pub record Fits (is : List Item) (st : Draft) : Type 0 where
  pub rights : all_right is ≡ true
  pub lines : st.counted + length is ≤ lines_limit
  pub bytes : st.used + data_in is ≤ data_limit
  pub nested : nests is (length st.loops) ≡ true
  pub few : st.count + nexts_in is ≤ process_limit

-- what one item leaves: a state in which the others can still be taken, and the same script in the end
pub record Step (l : List ℕ) (i : Item) (is : List Item) (row : ℕ) (st : Draft) : Type 0 where
  pub leaves : Draft
  pub taken : take_line row st l ≡ going leaves
  pub fits : Fits is leaves
  pub begun : leaves.begun ≡ true
  pub settings : leaves.settings ≡ st.settings
  pub body : leaves.body ≡ st.body ++ i ∷ []

pub step_does : (s : Statement) (is : List Item) (row : ℕ) (st : Draft) → Fits (does s ∷ is) st → Step (line_for s) (does s) is row st
unfolding all_right data_in nexts_in nests count_line with_item
step_does s is row st f =
    let r : right s ≡ true = both_left (right s) (all_right is) f.rights in
    let may : may_nest (shape s) (length st.loops) ≡ true = both_left (may_nest (shape s) (length st.loops)) (nests is (depth_after (shape s) (length st.loops))) f.nested in
    let n = nest_right row (shape s) st.loops may in
    let k : st.counted < lines_limit = omega (arith, f.lines) in
    record {
      leaves = with_item (count_line st) n.0 s;
      taken = statement_taken row st k s n.0 r (omega (arith, f.bytes)) n.1;
      fits = record {
        rights = both_right (right s) (all_right is) f.rights;
        lines = omega (arith, f.lines);
        bytes = omega (arith, f.bytes);
        nested = rw n.2 (both_right (may_nest (shape s) (length st.loops)) (nests is (depth_after (shape s) (length st.loops))) f.nested);
        few = f.few;
      };
      begun = refl;
      settings = refl;
      body = refl;
    }

pub step_next : (is : List Item) (row : ℕ) (st : Draft) → st.begun ≡ true → Fits (next ∷ is) st → Step (ascii "#PROCESS") next is row st
unfolding all_right data_in nexts_in nests count_line with_next
step_next is row st b f =
    let none : st.loops ≡ [] = none_open st.loops (both_left (eqb (length st.loops) 0) (nests is 0) f.nested) in
    let k : st.counted < lines_limit = omega (arith, f.lines) in
    record {
      leaves = with_next (count_line st);
      taken = next_taken row st k none b (omega (arith, f.few));
      fits = record {
        rights = f.rights;
        lines = omega (arith, f.lines);
        bytes = f.bytes;
        nested = both_right (eqb (length st.loops) 0) (nests is 0) f.nested;
        few = omega (arith, f.few);
      };
      begun = refl;
      settings = refl;
      body = refl;
    }

module _ (stretch : List Statement → ℕ) where
  pub fold_on : (l : List ℕ) (ls : List (List ℕ)) (row : ℕ) (st st₁ : Draft) → take_line row st l ≡ going st₁
      → fold stretch (l ∷ ls) row st ≡ fold stretch ls (row + 1) st₁
  unfolding fold go_on
  fold_on l ls row st st₁ e = rw e

  -- the answer to a whole body
  abbrev pub Done : Settings → List Item → Result
  Done s is = stretched stretch (processes is) 1 (record { settings = s; body = is })

  pub goes_on_lem : (l : List ℕ) (i : Item) (is : List Item) (ls : List (List ℕ)) (row : ℕ) (st : Draft) (p : Step l i is row st)
      → fold stretch ls (row + 1) p.leaves ≡ Done p.leaves.settings (p.leaves.body ++ is)
      → fold stretch (l ∷ ls) row st ≡ Done st.settings (st.body ++ i ∷ is)
  goes_on_lem l i is ls row st p e =
      fold_on l ls row st p.leaves p.taken
      ∙ e
      ∙ rw (p.settings, p.body, append_snoc st.body i is)

  pub items_taken : (is : List Item) (row : ℕ) (st : Draft) → Fits is st → st.begun ≡ true
      → fold stretch (item_lines is) row st ≡ Done st.settings (st.body ++ is)
  unfolding item_lines item_line nests fold finished
  items_taken [] row st f b = rw (none_open st.loops f.nested, append-nil st.body)
  items_taken (does s ∷ is) row st f b =
      let p = step_does s is row st f in
      goes_on_lem (line_for s) (does s) is (item_lines is) row st p (items_taken is (row + 1) p.leaves p.fits p.begun)
  items_taken (next ∷ is) row st f b =
      let p = step_next is row st b f in
      goes_on_lem (ascii "#PROCESS") next is (item_lines is) row st p (items_taken is (row + 1) p.leaves p.fits p.begun)
