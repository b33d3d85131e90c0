-- A STATEMENT IS WRITTEN: its word and its data stand after those before, and the last process is one cell longer. Assumes nothing.
use Rattle.std.specs.Prelude.{Ok, Err}
use Prim.Native.Nat.{ℕ, ◌+◌, ◌-◌, ◌≤◌, ◌<◌}
use mathlib.Core.Path.{◌≡◌, refl, sym, ap, ◌∙◌}
use mathlib.Core.Bool.{true}
use mathlib.Core.List.{List, [], ◌∷◌, ◌++◌}
use native.Mathlib.Omega.{arith}
use lib.ListN.{length, take, set, length-append}
use borrow.Author.Tests.{le-leb, lt-leb}
use Rattle.writer.specs.Put.{put_into}
use Rattle.language.specs.declared.Cell.{Cell}
use Rattle.language.specs.declared.Heads.{Heads}
use Rattle.language.specs.declared.Table.{Table}
use Rattle.language.specs.declared.TextFault.TheVariants.{TooMuchData}
use Rattle.language.specs.Limits.{lines_limit, data_limit, process_limit}
use Rattle.language.specs.Script.{Statement, send, loop, end, wait_time, wait_data, wait_byte, wait_clock, wait_signal, rts, log, fchange, pause, resume, nop, Item, does, Shape, shape, data_of}
use Rattle.language.specs.Draft.{Draft, Nested, now, broken, nest, with_item, take_nested, take_statement}
use Rattle.language.specs.Cell.{coded}
use Rattle.language.specs.Table.{padded, cell_for, words_from, pool_of, ends_from, heads_of}
use Rattle.compiler.specs.declared.drafting.Drafting.{Drafting}
use Rattle.compiler.specs.declared.drafting.Stop.{Stop}
use Rattle.compiler.specs.Inside.Needs.{count_in, shape_in, placed_at}
use Rattle.compiler.specs.Inside.Drafting.{Step, stopped, IsDraft, Took, with_loops, nested_in, Nests, HasRoom, HasRoomFor, Writes}
use Rattle.compiler.proofs.Padding.{padded_length, put_behind, set_behind, set_last, front_of_lem}
use Rattle.compiler.proofs.Bodies.{pool_does, words_does, Ends, ends_does}
use Rattle.compiler.proofs.Standing.{heads_with, heads_with_lem}

-- a statement's word and its data after those before
abbrev written_in : Drafting → ℕ → List ℕ → Drafting
written_in w word bs =
    record w {
      written = w.written + 1;
      begun = true;
      table =
          record {
            cells = set w.table.cells w.written word;
            pool = put_into bs w.table.pool w.table.heads.used;
            heads = heads_with w.table.heads w.table.heads.processes (set w.table.heads.ends (w.table.heads.processes - 1) (w.written + 1)) (w.table.heads.used + length bs);
          };
    }

pub written_on : {st : Draft} (s : Statement) {w : Drafting} {word : ℕ} {bs : List ℕ} → w.written < lines_limit → w.table.heads.used + length bs ≤ data_limit
    → word ≡ coded (cell_for st.used s) → bs ≡ data_of s → IsDraft st w → IsDraft (with_item st st.loops s) (written_in w word bs)
unfolding with_item heads_of put_into
written_on {st} s {w} {word} {bs} room fits e b h =
    let is : List Item = st.body in
    let ends : Ends is s = ends_does is s in
    let ws : List ℕ = words_from 0 is in
    let was : Heads = w.table.heads in
    let zeroth : 0 + length (pool_of is) ≡ st.used = omega (arith, h.used) in
    let more : words_from 0 (is ++ does s ∷ []) ≡ ws ++ word ∷ [] = words_does 0 is s ∙ rw (e, zeroth) in
    let data-more : pool_of (is ++ does s ∷ []) ≡ pool_of is ++ bs = pool_does is s ∙ rw b in
    let used : was.used ≡ length (pool_of is) = ap (λ (x : Heads). x.used) h.heads in
    let processes : was.processes ≡ length (ends_from 0 is) = ap (λ (x : Heads). x.processes) h.heads in
    let ends-was : was.ends ≡ padded process_limit (ends_from 0 is) = ap (λ (x : Heads). x.ends) h.heads in
    let last : was.processes - 1 ≡ length ends.before = omega (arith, processes, ap length ends.till, length-append ends.before (length ws ∷ [])) in
    let as_many : length (ends_from 0 (is ++ does s ∷ [])) ≡ length (ends_from 0 is) = rw (ends.now, ends.till) (simp length-append) in
    let inside : length (pool_of is) + length bs ≤ length w.table.pool = rw (h.bytes, padded_length data_limit (pool_of is) (omega arith)) (omega arith) in
    record {
      counted = h.counted;
      written = rw more (simp length-append (omega (arith, h.written)));
      opened = h.opened;
      long = h.long;
      loops = h.loops;
      begun = refl;
      heads =
          heads_with_lem was st.settings is (is ++ does s ∷ []) h.heads (processes ∙ sym as_many)
          (rw (ends-was, last, ends.till, h.written, ends.now) (set_last process_limit ends.before (length ws) (length ws + 1)))
          (rw data-more (simp length-append (omega (arith, used))));
      used = rw data-more (simp length-append (omega (arith, h.used, ap length b)));
      count = h.count ∙ sym as_many;
      words = rw (h.words, h.written, more) (set_behind lines_limit ws word (omega (arith, h.written)));
      bytes = rw (used, le-leb _ _ inside, h.bytes, data-more) (put_behind data_limit (pool_of is) bs (omega arith));
    }

-- ---- what a cell needs is what its statement needs

pub record Told (at : ℕ) (s : Statement) : Type 0 where
  pub shaped : shape_in (cell_for 0 s) ≡ shape s
  pub counts : count_in (cell_for 0 s) ≡ length (data_of s)
  pub placed : placed_at at (cell_for 0 s) ≡ cell_for at s

pub told : (at : ℕ) (s : Statement) → Told at s
unfolding shape data_of cell_for
told at (send bs) = record { shaped = refl; counts = refl; placed = refl }
told at (loop n) = record { shaped = refl; counts = refl; placed = refl }
told at end = record { shaped = refl; counts = refl; placed = refl }
told at (wait_time n) = record { shaped = refl; counts = refl; placed = refl }
told at (wait_data bs) = record { shaped = refl; counts = refl; placed = refl }
told at (wait_byte n) = record { shaped = refl; counts = refl; placed = refl }
told at (wait_clock vs) = record { shaped = refl; counts = refl; placed = refl }
told at (wait_signal n on) = record { shaped = refl; counts = refl; placed = refl }
told at (rts on) = record { shaped = refl; counts = refl; placed = refl }
told at (log text) = record { shaped = refl; counts = refl; placed = refl }
told at fchange = record { shaped = refl; counts = refl; placed = refl }
told at pause = record { shaped = refl; counts = refl; placed = refl }
told at resume = record { shaped = refl; counts = refl; placed = refl }
told at nop = record { shaped = refl; counts = refl; placed = refl }

-- ---- a statement line

-- what the code has found of the statement
record Known (w : Drafting) (cell : Cell) (size : ℕ) (st : Draft) (s : Statement) : Type 0 where
  used : w.table.heads.used ≡ st.used
  sized : size ≡ length (data_of s)
  shaped : shape_in cell ≡ shape s
  placed : placed_at w.table.heads.used cell ≡ cell_for st.used s

-- where the loops do not nest, the fault stands; where they do, the statement is written with the loops that are then nested
nested_stop : (row : ℕ) (st : Draft) (s : Statement) (n : Nested) (x : Stop) (w w' : Drafting)
    → Took (nested_in row st n) (Err x) w → Took (take_nested row st s n) (Err x) w'
unfolding nested_in take_nested
nested_stop row st s (now ls) x w w' t = let e = t.0 in absurd (cc)
nested_stop row st s (broken f) x w w' t = t

nested_on : (row : ℕ) (st : Draft) (s : Statement) (n : Nested) (nested w : Drafting)
    → ((st₁ : Draft) → st₁.used ≡ st.used → IsDraft st₁ nested → IsDraft (with_item st₁ st₁.loops s) w)
    → Took (nested_in row st n) (Ok tt) nested → Took (take_nested row st s n) (Ok tt) w
unfolding nested_in take_nested with_loops with_item
nested_on row st s (now ls) nested w k t = (refl, k (with_loops st ls) refl t.1)
nested_on row st s (broken f) nested w k t = absurd (cc)

module _ (row : ℕ) (cell : Cell) (lent : List ℕ) (w : Drafting) {size : ℕ} (counts : size ≡ count_in cell) where
  known : (st : Draft) (s : Statement) → cell ≡ cell_for 0 s → IsDraft st w → Known w cell size st s
  unfolding heads_of
  known st s is h =
      let used : w.table.heads.used ≡ st.used = ap (λ (x : Heads). x.used) h.heads ∙ sym h.used in
      record {
        used = used;
        sized = counts ∙ ap count_in is ∙ (told 0 s).counts;
        shaped = ap shape_in is ∙ (told 0 s).shaped;
        placed = rw (used, is) (told st.used s).placed;
      }

  -- "data over 1,024"
  pub too_much : data_limit < w.table.heads.used + size → Writes row lent w (stopped TooMuchData row) w cell
  unfolding take_statement
  too_much k s is f st h =
      let n = known st s is h in
      rw (lt-leb (st.used + length (data_of s)) data_limit (omega (arith, n.used, n.sized)))

  module _ {r : Step} {nested : Drafting} (fits : w.table.heads.used + size ≤ data_limit) (nests : Nests (shape_in cell) row w r nested) where
    fitting : (st : Draft) (s : Statement) (r' : Step) (w' : Drafting) → Known w cell size st s
        → Took (take_nested row st s (nest row (shape s) st.loops)) r' w' → Took (take_statement row st s) r' w'
    unfolding take_statement
    fitting st s r' w' n t = rw (le-leb (st.used + length (data_of s)) data_limit (omega (arith, n.used, n.sized))) t

    pub not_nested : {x : Stop} (w' : Drafting) → r ≡ Err x → Writes row lent w (Err x) w' cell
    not_nested {x} w' e s is f st h =
        let n = known st s is h in
        fitting st s (Err x) w' n (nested_stop row st s _ x nested w' (rw (n.shaped, e) at (nests.takes st h)))

    pub statement_on : {word : ℕ} {w' : Drafting} → r ≡ Ok tt → word ≡ coded (placed_at w.table.heads.used cell)
        → ((st : Draft) (s : Statement) → word ≡ coded (cell_for st.used s) → take size lent ≡ data_of s → IsDraft st nested → IsDraft (with_item st st.loops s) w')
        → size ≤ length lent → Writes row lent w (Ok tt) w' cell
    statement_on {word} {w'} e x k m s is f st h =
        let n = known st s is h in
        fitting st s (Ok tt) w' n (nested_on row st s _ nested w'
        (λ st₁ u h₁. k st₁ s (x ∙ rw (n.placed, u)) (front_of_lem size lent (data_of s) f n.sized m) h₁)
        (rw (n.shaped, e) at (nests.takes st h)))

-- room for the statement's word and its data, once the loops nest
pub room_on : {w nested : Drafting} {shape : Shape} {row : ℕ} {r : Step} (bs : List ℕ)
    → Nests shape row w r nested → HasRoom w → w.table.heads.used + length bs ≤ data_limit → HasRoomFor nested bs
room_on bs n i k =
    let processes = ap (λ (x : Table). x.heads.processes) n.table in
    let used = ap (λ (x : Table). x.heads.used) n.table in
    record {
      room = omega (arith, n.written, i.room);
      some = omega (arith, processes, i.some);
      few = omega (arith, processes, i.few);
      data_room = omega (arith, used, k);
    }
