-- One pass over the words of a table: words that fit are those of the statements read from them. Assumes nothing.
use Prim.Native.Nat.{ℕ, zero, suc, ◌+◌, ◌≤◌}
use mathlib.Core.Path.{◌≡◌, refl, sym, ap, ap₂, ◌∙◌}
use mathlib.Core.Bool.{true, not}
use mathlib.Core.List.{List, [], ◌∷◌, ◌++◌, append_assoc}
use mathlib.Core.Logic.{⊎_elim}
use native.Mathlib.Omega.{arith}
use lib.Dec.{leb, eqb}
use lib.ListN.{length, take, drop, length-append, take-append-drop, length-take, length-drop}
use lib.Seq.{drop-drop}
use borrow.Author.Tests.{eqb-true, leb-true}
use Rattle.reader.specs.Bytes.{same}
use Rattle.reader.proofs.Tests.{both_left, both_right, both, true_is_false}
use Rattle.language.specs.declared.Span.{Span}
use Rattle.language.specs.declared.Clock.{Clock}
use Rattle.language.specs.declared.Cell.{Cell}
use Rattle.language.specs.declared.Cell.TheVariants.{Nothing, Send, Loop, End, WaitTime, WaitData, WaitByte, WaitClock, WaitSignal, Rts, Log, Fchange, Pause, Resume, Nop, Unknown}
use Rattle.language.specs.Limits.{data_limit, send_room, wait_room, log_room}
use Rattle.language.specs.Clock.{range, within}
use Rattle.language.specs.Script.{Item, data_of}
use Rattle.language.specs.Right.{in_ranges, clock_right, right, all_right}
use Rattle.language.specs.Cell.{span, clock, coded, decoded, span_right, unit_right, fixed_right, clock_from, fixed_units}
use Rattle.language.specs.Inside.Right.{cell_right}
use Rattle.language.specs.Table.{data_at, cell_for, words_from, pool_of, statement_of, items_of}
use Rattle.language.proofs.TableCells.{both_map}
use Rattle.language.proofs.Cells.{span_fits, code_decode}
use Rattle.accepted.specs.Inside.Cells.{follows, cell_fits, bytes_of_cell, words_fit, words_end}

-- ---- clock values

module _ (d o m s : ℕ) where
  units : (fixed : ℕ) → fixed_right (clock fixed d o m s) ≡ true → clock_from (fixed_units (clock fixed d o m s)) ≡ clock fixed d o m s
  unfolding fixed_right clock_from fixed_units unit_right
  units zero h =
      let a = both_right (eqb d 0) _ h in
      let b = both_right (eqb o 0) _ a in
      rw (eqb-true d 0 (both_left (eqb d 0) _ h), eqb-true o 0 (both_left (eqb o 0) _ a), eqb-true m 0 (both_left (eqb m 0) _ b), eqb-true s 0 (both_right (eqb m 0) _ b))
  units (suc zero) h =
      let a = both_right (eqb d 0) _ h in
      let b = both_right (eqb o 0) _ a in
      rw (eqb-true d 0 (both_left (eqb d 0) _ h), eqb-true o 0 (both_left (eqb o 0) _ a), eqb-true m 0 (both_left (eqb m 0) _ b))
  units (suc (suc zero)) h =
      let a = both_right (eqb d 0) _ h in
      rw (eqb-true d 0 (both_left (eqb d 0) _ h), eqb-true o 0 (both_left (eqb o 0) _ a))
  units (suc (suc (suc zero))) h = rw (eqb-true d 0 (both_left (eqb d 0) _ h))
  units (suc (suc (suc (suc zero)))) h = refl
  units (suc (suc (suc (suc (suc n))))) h = absurd (omega (arith, leb-true (suc (suc (suc (suc (suc n))))) 4 (both_left (leb (suc (suc (suc (suc (suc n))))) 4) _ h)))

clock_from_lem : (c : Clock) → fixed_right c ≡ true → clock_from (fixed_units c) ≡ c
clock_from_lem c h = units c.day c.hour c.minute c.second c.fixed h

module _ (d o m s : ℕ) where
  ranges : (fixed : ℕ) → fixed_right (clock fixed d o m s) ≡ true → clock_right (fixed_units (clock fixed d o m s)) ≡ true
  unfolding fixed_right fixed_units unit_right clock_right in_ranges
  ranges zero h = refl
  ranges (suc zero) h =
      let a = both_right (eqb d 0) _ h in
      let b = both_right (eqb o 0) _ a in
      both (within (range 0 59) s) _ (both_right (eqb m 0) _ b) refl
  ranges (suc (suc zero)) h =
      let a = both_right (eqb d 0) _ h in
      both_map (within (range 0 59) m) _ _ (λ e. both (within (range 0 59) s) _ e refl) (both_right (eqb o 0) _ a)
  ranges (suc (suc (suc zero))) h =
      both_map (within (range 0 23) o) _ _ (both_map (within (range 0 59) m) _ _ (λ e. both (within (range 0 59) s) _ e refl)) (both_right (eqb d 0) _ h)
  ranges (suc (suc (suc (suc zero)))) h =
      both_map (within (range 1 31) d) _ _
      (both_map (within (range 0 23) o) _ _ (both_map (within (range 0 59) m) _ _ (λ e. both (within (range 0 59) s) _ e refl))) h
  ranges (suc (suc (suc (suc (suc n))))) h = absurd (omega (arith, leb-true (suc (suc (suc (suc (suc n))))) 4 (both_left (leb (suc (suc (suc (suc (suc n))))) 4) _ h)))

clock_units : (c : Clock) → fixed_right c ≡ true → clock_right (fixed_units c) ≡ true
clock_units c h = ranges c.day c.hour c.minute c.second c.fixed h

-- ---- a cell

some : (l : List ℕ) → 1 ≤ length l → not (same l []) ≡ true
unfolding same
some [] h = absurd (omega arith)
some (b ∷ l) h = refl

data_length : (pool : List ℕ) (low high : ℕ) (s : Span) → length pool ≡ data_limit → span_right low high s ≡ true → length (data_at pool s) ≡ s.count
data_length pool low high s n h = let f = span_fits low high s h in simp (length-take, length-drop) (omega (arith, f.inside))

-- the span of data that begin at `at`
span_back : (pool : List ℕ) (at low high : ℕ) (s : Span) → length pool ≡ data_limit → span_right low high s ≡ true → follows at s ≡ true
    → span at (length (data_at pool s)) ≡ s
unfolding follows
span_back pool at low high s n h k = rw (data_length pool low high s n h) (ap (λ (f : ℕ). span f s.count) (sym (eqb-true s.from at k)))

-- a cell that fits is that of the statement read from it
module _ (pool : List ℕ) (at : ℕ) (n : length pool ≡ data_limit) where
  cell_back : (c : Cell) → cell_right c ≡ true → cell_fits pool at c ≡ true → cell_for at (statement_of pool c) ≡ c
  unfolding cell_right cell_fits cell_for statement_of
  cell_back Nothing r f = true_is_false (sym f)
  cell_back (Send s) r f = ap Send (span_back pool at 0 send_room s n r (both_left (follows at s) _ f))
  cell_back (Loop k) r f = refl
  cell_back End r f = refl
  cell_back (WaitTime k) r f = refl
  cell_back (WaitData s) r f = ap WaitData (span_back pool at 1 wait_room s n r (both_left (follows at s) _ f))
  cell_back (WaitByte k) r f = refl
  cell_back (WaitClock c) r f = ap WaitClock (clock_from_lem c r)
  cell_back (WaitSignal l) r f = refl
  cell_back (Rts on) r f = refl
  cell_back (Log s) r f = ap Log (span_back pool at 0 log_room s n r (both_left (follows at s) _ f))
  cell_back Fchange r f = refl
  cell_back Pause r f = refl
  cell_back Resume r f = refl
  cell_back Nop r f = refl
  cell_back Unknown r f = true_is_false (sym f)

  -- its data are the bytes from `at` on
  cell_data : (c : Cell) → cell_right c ≡ true → cell_fits pool at c ≡ true → data_of (statement_of pool c) ≡ take (bytes_of_cell c) (drop at pool)
  unfolding cell_right cell_fits statement_of data_of bytes_of_cell follows
  cell_data Nothing r f = refl
  cell_data (Send s) r f = rw (eqb-true s.from at (both_left (eqb s.from at) _ f))
  cell_data (Loop k) r f = refl
  cell_data End r f = refl
  cell_data (WaitTime k) r f = refl
  cell_data (WaitData s) r f = rw (eqb-true s.from at (both_left (eqb s.from at) _ f))
  cell_data (WaitByte k) r f = refl
  cell_data (WaitClock c) r f = refl
  cell_data (WaitSignal l) r f = refl
  cell_data (Rts on) r f = refl
  cell_data (Log s) r f = rw (eqb-true s.from at (both_left (eqb s.from at) _ f))
  cell_data Fchange r f = refl
  cell_data Pause r f = refl
  cell_data Resume r f = refl
  cell_data Nop r f = refl
  cell_data Unknown r f = refl

  cell_count : (c : Cell) → cell_right c ≡ true → length (data_of (statement_of pool c)) ≡ bytes_of_cell c
  unfolding cell_right statement_of data_of bytes_of_cell
  cell_count Nothing r = refl
  cell_count (Send s) r = data_length pool 0 send_room s n r
  cell_count (Loop k) r = refl
  cell_count End r = refl
  cell_count (WaitTime k) r = refl
  cell_count (WaitData s) r = data_length pool 1 wait_room s n r
  cell_count (WaitByte k) r = refl
  cell_count (WaitClock c) r = refl
  cell_count (WaitSignal l) r = refl
  cell_count (Rts on) r = refl
  cell_count (Log s) r = data_length pool 0 log_room s n r
  cell_count Fchange r = refl
  cell_count Pause r = refl
  cell_count Resume r = refl
  cell_count Nop r = refl
  cell_count Unknown r = refl

  -- and the statement is one that a line can have
  cell_statement : (c : Cell) → cell_right c ≡ true → cell_fits pool at c ≡ true → right (statement_of pool c) ≡ true
  unfolding cell_right cell_fits statement_of right
  cell_statement Nothing r f = refl
  cell_statement (Send s) r f = both_right (follows at s) _ f
  cell_statement (Loop k) r f = r
  cell_statement End r f = refl
  cell_statement (WaitTime k) r f = r
  cell_statement (WaitData s) r f =
      let l : 1 ≤ length (data_at pool s) = rw (data_length pool 1 wait_room s n r) (span_fits 1 wait_room s r).least in
      both (not (same (data_at pool s) [])) _ (some (data_at pool s) l) (both_right (follows at s) _ f)
  cell_statement (WaitByte k) r f = r
  cell_statement (WaitClock c) r f = clock_units c r
  cell_statement (WaitSignal l) r f = r
  cell_statement (Rts on) r f = refl
  cell_statement (Log s) r f = both_right (follows at s) _ f
  cell_statement Fchange r f = refl
  cell_statement Pause r f = refl
  cell_statement Resume r f = refl
  cell_statement Nop r f = refl
  cell_statement Unknown r f = refl

  -- a word that fits is known, and is the word of its cell
  known : (w : ℕ) → cell_fits pool at (decoded w) ≡ true → (cell_right (decoded w) ≡ true) × (coded (decoded w) ≡ w)
  known w f = ⊎_elim (λ u. unknown (decoded w) u f) (λ p. p) (code_decode w)
    where
      unknown : (c : Cell) → c ≡ Unknown → cell_fits pool at c ≡ true → (cell_right (decoded w) ≡ true) × (coded (decoded w) ≡ w)
      unknown c e f = let z = rw e at f in true_is_false (sym (unfold cell_fits in z))

-- ---- the words

-- some items are those of words, the data of which lie between two places of the pool
pub record Walked (pool : List ℕ) (at : ℕ) (ws : List ℕ) (is : List Item) (e : ℕ) : Type 0 where
  pub words : words_from at is ≡ ws
  pub bytes : drop at pool ≡ pool_of is ++ drop e pool
  pub size : at + length (pool_of is) ≡ e
  pub rights : all_right is ≡ true

pub walked : (pool : List ℕ) → length pool ≡ data_limit → (ws : List ℕ) (at : ℕ) → words_fit pool at ws ≡ true → Walked pool at ws (items_of pool ws) (words_end at ws)
unfolding words_fit words_end items_of words_from pool_of all_right
walked pool n [] at h = record { words = refl; bytes = refl; size = omega arith; rights = refl }
walked pool n (w ∷ ws) at h =
    let c : Cell = decoded w in
    let f = both_left (cell_fits pool at c) _ h in
    let k = known pool at n w f in
    let count : length (data_of (statement_of pool c)) ≡ bytes_of_cell c = cell_count pool at n c k.0 in
    let held : data_of (statement_of pool c) ≡ take (bytes_of_cell c) (drop at pool) = cell_data pool at n c k.0 f in
    let r = walked pool n ws (at + bytes_of_cell c) (both_right (cell_fits pool at c) _ h) in
    record {
      words = ap₂ (λ (v : ℕ) (l : List ℕ). v ∷ l) (ap coded (cell_back pool at n c k.0 f) ∙ k.1) (rw count r.words);
      bytes =
          sym (take-append-drop (bytes_of_cell c) (drop at pool))
          ∙ ap₂ (λ (a b : List ℕ). a ++ b) (sym held) (drop-drop (bytes_of_cell c) at pool ∙ r.bytes)
          ∙ sym (append_assoc (data_of (statement_of pool c)) (pool_of (items_of pool ws)) (drop (words_end (at + bytes_of_cell c) ws) pool));
      size = simp length-append (omega (arith, r.size, count));
      rights = both (right (statement_of pool c)) _ (cell_statement pool at n c k.0 f) r.rights;
    }
