-- The marks of a table's cells, place by place: what stands where the code reads a cell. Assumes nothing.
use mathlib.Core.Path.{◌≡◌, refl, ap, sym, ◌∙◌}
use mathlib.Core.Bool.{cond}
use mathlib.Core.List.{List, [], ◌∷◌, map}
use Prim.Native.Nat.{ℕ, zero, suc, ◌≤◌, ◌<◌}
use native.Mathlib.Omega.{arith}
use lib.Dec.{ltb}
use lib.ListN.{length, get_or, take, drop, length-map, length-take}
use lib.Seq.{get_or-take}
use Rattle.figures.specs.Flat.{plain, sure_rest, opens}
use Rattle.figures.specs.Inside.Scan.{MarkAt}
use Rattle.figures.proofs.Scanning.{stands_map}
use Rattle.language.specs.declared.Cell.{Cell}
use Rattle.language.specs.declared.Cell.TheVariants.{Loop, WaitTime, WaitByte}
use Rattle.language.specs.Cell.{decoded}
use Rattle.language.specs.Stretch.{mark_of}
use Rattle.language.specs.Table.{statement_of}
use Rattle.stretch.specs.declared.Role.{Role}
use Rattle.stretch.specs.Marks.{cell_mark, word_mark, marks_between, marks_to}
use Rattle.stretch.specs.Inside.Roles.{marked}

map_drop : {A B : Type 0} (f : A → B) (i : ℕ) (xs : List A) → drop i (map f xs) ≡ map f (drop i xs)
map_drop f zero xs = refl
map_drop f (suc i) [] = refl
map_drop f (suc i) (x ∷ xs) = map_drop f i xs

-- the cells whose mark goes by their number
pub mark_loop : (n : ℕ) → cell_mark (Loop n) ≡ opens n
unfolding cell_mark mark_of statement_of
mark_loop n = refl

pub mark_time : (n : ℕ) → cell_mark (WaitTime n) ≡ cond (ltb 0 n) sure_rest plain
unfolding cell_mark mark_of statement_of
mark_time n = refl

pub mark_byte : (n : ℕ) → cell_mark (WaitByte n) ≡ cond (ltb 0 n) sure_rest plain
unfolding cell_mark mark_of statement_of
mark_byte n = refl

module _ (cells : List ℕ) (end : ℕ) where
  -- from a place on, the marks before `end` are those of the cells between
  pub marks_between_lem : (at : ℕ) → drop at (marks_to cells end) ≡ marks_between cells at end
  unfolding marks_between
  marks_between_lem at = map_drop word_mark at (take end cells)

  module _ (inside : end ≤ length cells) where
    pub marks_length : length (marks_to cells end) ≡ end
    marks_length = omega (arith, length-map (take end cells) word_mark, length-take end cells)

    -- where the code has read a cell and found its role, the mark of that role stands
    pub stands_role : (i : ℕ) → i < end → (cell : Cell) (found role : Role) → cell ≡ decoded (get_or cells i 0) → marked found ≡ cell_mark cell → found ≡ role
        → MarkAt (marks_to cells end) i (marked role)
    stands_role i h cell found role e m r =
        let w : word_mark (get_or (take end cells) i 0) ≡ marked role =
        ap word_mark (get_or-take end cells i 0 h) ∙ ap cell_mark (sym e) ∙ sym m ∙ ap marked r
        in
        rw (← w) (stands_map word_mark (take end cells) i 0 (omega (arith, length-take end cells)))
