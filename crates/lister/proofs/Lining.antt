-- The listing, line by line. Assumes nothing.
use Prim.Native.Nat.{ℕ, zero, suc, ◌+◌, ◌-◌, ◌≤◌, ◌<◌, min}
use Rattle.std.proofs.lemmas.List.{drop-take}
use Rattle.accepted.proofs.EndsFit.{drop_clip, take_clip}
use mathlib.Core.Path.{◌≡◌, refl, sym, ap, ap₂, ◌∙◌}
use mathlib.Core.Bool.{Bool, true, false, ◌&&◌}
use mathlib.Core.List.{List, [], ◌∷◌, ◌++◌, append_assoc, append-nil}
use native.Mathlib.Numerals.{add-one}
use native.Mathlib.Omega.{arith}
use lib.Dec.{ltb, eqb}
use lib.ListN.{length, take, drop, get_or, length-take, length-drop, drop_of_length-le}
use lib.Seq.{drop-cons, get_or-take, slice}
use borrow.Author.Tests.{ltb-true, ltb-false, lt-ltb, le-ltb, ne_eqb}
use Rattle.reader.proofs.Tests.{and_false}
use Rattle.language.specs.declared.Heads.{Heads}
use Rattle.language.specs.Script.{Statement, Item, does, next}
use Rattle.language.specs.Listing.{line_for, item_line, item_lines, body_lines, with_line_ends}
use Rattle.language.specs.Cell.{decoded}
use Rattle.language.specs.Table.{statement_of, items_of, body_from}
use Rattle.accepted.specs.Inside.Heads.{ends_of, first_empty}
use Rattle.lister.specs.Inside.Printed.{line_ended, word_line, printed_items, printed_cells, further, printed_first, printed_body}

pub joined_append : (a b : List (List ℕ)) → with_line_ends (a ++ b) ≡ with_line_ends a ++ with_line_ends b
unfolding with_line_ends
joined_append [] b = refl
joined_append (l ∷ a) b = ap (λ (k : List ℕ). l ++ 13 ∷ 10 ∷ k) (joined_append a b) ∙ sym (append_assoc l (13 ∷ 10 ∷ with_line_ends a) (with_line_ends b))

lines_append : (a b : List Item) → item_lines (a ++ b) ≡ item_lines a ++ item_lines b
unfolding item_lines
lines_append [] b = refl
lines_append (i ∷ a) b = ap (λ (k : List (List ℕ)). item_line i ∷ k) (lines_append a b)

printed_append : (a b : List Item) → printed_items (a ++ b) ≡ printed_items a ++ printed_items b
unfolding printed_items
printed_append a b = ap with_line_ends (lines_append a b) ∙ joined_append (item_lines a) (item_lines b)

-- a statement's line, and the others
statement_first : (s : Statement) (is : List Item) → printed_items (does s ∷ is) ≡ line_ended (line_for s) ++ printed_items is
unfolding printed_items item_lines item_line with_line_ends
statement_first s is = sym (append_assoc (line_for s) (13 ∷ 10 ∷ []) (with_line_ends (item_lines is)))

-- ---- the cells

module _ (pool es : List ℕ) (i : ℕ) where
  pub cells_on : i < length es → printed_items (items_of pool (drop i es)) ≡ line_ended (word_line pool (get_or es i 0)) ++ printed_items (items_of pool (drop (i + 1) es))
  unfolding items_of
  cells_on h = rw (add-one i, drop-cons es i 0 h) (statement_first (statement_of pool (decoded (get_or es i 0))) (items_of pool (drop (suc i) es)))

  pub cells_past : length es ≤ i → printed_items (items_of pool (drop i es)) ≡ []
  unfolding items_of printed_items item_lines with_line_ends
  cells_past h = rw (drop_of_length-le es h)

-- the part of a list between two places, cut off where it ends
pub part_is : (l : List ℕ) (from end f e : ℕ) → e ≡ min end (length l) → f ≡ min from e → take (e - f) (drop f l) ≡ drop from (take end l)
part_is l from end f e last first =
    let parts : f + (e - f) ≡ e = omega arith in
    sym (drop-take f (e - f) l) ∙ (rw parts (drop_clip from f (take e l) (omega (arith, length-take e l)) ∙ ap (drop from) (take_clip end e l last)))

-- ---- the processes after the first

-- what is left of them, the next end being the ith
abbrev pub others : List ℕ → List ℕ → List ℕ → ℕ → ℕ → List ℕ
others pool ws es from i = printed_items (further pool ws from (drop i es))

process_first : (is : List Item) → printed_items (next ∷ is) ≡ printed_items (next ∷ []) ++ printed_items is
process_first is = printed_append (next ∷ []) is

module _ (pool ws es : List ℕ) (from i : ℕ) where
  pub others_on : i < length es → {e : ℕ} → e ≡ get_or es i 0
      → others pool ws es from i ≡ printed_items (next ∷ []) ++ (printed_cells pool ws from e ++ others pool ws es e (i + 1))
  unfolding further
  others_on h {e} is =
      rw (add-one i, drop-cons es i 0 h, sym is)
      (process_first (items_of pool (slice from e ws) ++ further pool ws e (drop (suc i) es))
      ∙ ap (λ (k : List ℕ). printed_items (next ∷ []) ++ k) (printed_append (items_of pool (slice from e ws)) (further pool ws e (drop (suc i) es))))

  pub others_past : length es ≤ i → others pool ws es from i ≡ []
  unfolding further printed_items item_lines with_line_ends
  others_past h = rw (drop_of_length-le es h)

-- ---- the body

-- a process and those after it
body_is : (pool ws : List ℕ) (es : List ℕ) (i e : ℕ) → body_from pool ws i (e ∷ es) ≡ items_of pool (slice i e ws) ++ further pool ws e es
unfolding body_from further
body_is pool ws [] i e = sym (append-nil (items_of pool (slice i e ws)))
body_is pool ws (f ∷ es) i e = ap (λ (k : List Item). items_of pool (slice i e ws) ++ next ∷ k) (body_is pool ws es e f)

-- a body begins with a further process
abbrev starts_next : List Item → Bool
starts_next [] = false
starts_next (does s ∷ is) = false
starts_next (next ∷ is) = true

body_lines_lem : (is : List Item) → with_line_ends (body_lines is) ≡ printed_first (starts_next is) ++ printed_items is
unfolding body_lines printed_items item_lines item_line with_line_ends
body_lines_lem [] = refl
body_lines_lem (does s ∷ is) = refl
body_lines_lem (next ∷ is) = refl

-- it does if the first process is empty and others follow
starts : (pool ws : List ℕ) → 0 < length ws → (e : ℕ) (es : List ℕ) → starts_next (items_of pool (slice 0 e ws) ++ further pool ws e es) ≡ (ltb 0 (length es) && eqb e 0)
unfolding items_of further
starts pool [] h e es = absurd (omega arith)
starts pool (w ∷ ws) h zero [] = refl
starts pool (w ∷ ws) h zero (f ∷ es) = let l : 0 < suc (length es) = omega arith in sym (rw (lt-ltb 0 (suc (length es)) l))
starts pool (w ∷ ws) h (suc e) es = let n : suc e ≡ 0 → ⊥ = omega arith in sym (rw (ne_eqb (suc e) 0 n) (and_false (ltb 0 (length es))))

pub no_processes : (pool ws ends : List ℕ) {n : ℕ} → n ≡ 0 → printed_body pool ws (take n ends) ≡ []
unfolding printed_body body_from body_lines with_line_ends
no_processes pool ws ends e = rw e

module _ (pool ws : List ℕ) (h : Heads) (cells : 0 < length ws) (ends : length h.ends ≡ 8) (some : h.processes ≡ 0 → ⊥) {e : ℕ} (is : e ≡ get_or h.ends 0 0) where
  abbrev es : List ℕ
  es = drop 1 (ends_of h)

  cut : ends_of h ≡ e ∷ es
  cut =
      let l : 0 < length (ends_of h) = simp length-take (omega arith) in
      let k : 0 < h.processes = omega arith in
      drop-cons (ends_of h) 0 0 l ∙ rw (get_or-take h.processes h.ends 0 0 k, sym is)

  follows : ltb 1 h.processes ≡ ltb 0 (length es)
  follows = go (ltb 1 h.processes) refl
    where
      go : (t : Bool) → ltb 1 h.processes ≡ t → t ≡ ltb 0 (length es)
      go true q =
          let k = ltb-true 1 h.processes q in
          let l : 0 < length es = simp (length-drop, length-take) (omega arith) in
          sym (lt-ltb 0 (length es) l)
      go false q =
          let k = ltb-false 1 h.processes q in
          let l : length es ≤ 0 = simp (length-drop, length-take) (omega arith) in
          sym (le-ltb 0 (length es) l)

  empty : first_empty h ≡ (ltb 0 (length es) && eqb e 0)
  unfolding first_empty
  empty = rw (follows, is)

  pub body_parts : {t : Bool} → t ≡ first_empty h
      → printed_first t ++ (printed_cells pool ws 0 e ++ printed_items (further pool ws e (drop 1 (ends_of h)))) ≡ printed_body pool ws (ends_of h)
  unfolding printed_body
  body_parts {t} told =
      let items : List Item = items_of pool (slice 0 e ws) ++ further pool ws e es in
      let all : body_from pool ws 0 (ends_of h) ≡ items = ap (body_from pool ws 0) cut ∙ body_is pool ws es 0 e in
      let first : starts_next items ≡ t = starts pool ws cells e es ∙ (sym empty ∙ sym told) in
      let rest = printed_append (items_of pool (slice 0 e ws)) (further pool ws e es) in
      sym (ap (λ (is : List Item). with_line_ends (body_lines is)) all ∙ (body_lines_lem items ∙ ap₂ (λ (b : Bool) (k : List ℕ). printed_first b ++ k) first rest))
