-- The table that a right script is laid out in passes the tests. Assumes nothing.
use Prim.Native.Nat.{ℕ, zero, suc, ◌+◌, ◌-◌, ◌≤◌}
use mathlib.Core.Path.{◌≡◌, refl, sym, ap, ◌∙◌}
use mathlib.Core.Bool.{true, cond, not}
use mathlib.Core.List.{List, [], ◌∷◌, ◌++◌, append_assoc}
use native.Mathlib.Omega.{arith}
use lib.Dec.{leb, eqb}
use lib.ListN.{length, take, drop, replicate, length-append}
use lib.Seq.{take_at, drop_at, drop-drop}
use borrow.Author.Tests.{leb-true, le-leb, eq-eqb}
use Rattle.reader.specs.Bytes.{same}
use Rattle.reader.proofs.Tests.{both_left, both_right, both}
use Rattle.language.specs.Limits.{lines_limit, data_limit, omit_limit, process_limit}
use Rattle.language.specs.Script.{Statement, send, loop, end, wait_time, wait_data, wait_byte, wait_clock, wait_signal, rts, log, fchange, pause, resume, nop, Encode, unset, byte, Settings, Item, does, next, Script, data_of}
use Rattle.language.specs.Right.{right, all_right, nexts_in, settings_right}
use Rattle.language.specs.Cell.{coded, decoded}
use Rattle.language.specs.Table.{padded, cell_for, words_from, pool_of, ends_from, encodes, encode_byte_of, heads_of, laid_out, letters_of, settings_of}
use Rattle.language.proofs.Cells.{decode_code}
use Rattle.language.proofs.Tables.{pool_length, settings_back}
use Rattle.language.proofs.TableCells.{cell_right_lem}
use Rattle.language.proofs.Good.{Good}
use Rattle.accepted.specs.Inside.Heads.{all_zero, rising, last_end, ends_right, settings_fit}
use Rattle.accepted.specs.Inside.Cells.{cells_fit, follows, cell_fits, bytes_of_cell, words_fit, words_end}
use Rattle.accepted.specs.Inside.Lines.{cells_right}
use Rattle.accepted.proofs.Counting.{items_count, ends_count, lines_count}

-- ---- zeros

zeros_zero : (n : ℕ) → all_zero (replicate n 0) ≡ true
unfolding all_zero
zeros_zero zero = refl
zeros_zero (suc n) = zeros_zero n

pad_drop : (k : ℕ) (l : List ℕ) → all_zero (drop (length l) (padded k l)) ≡ true
pad_drop k l = rw (drop_at l (replicate (k - length l) 0) (length l) refl) (zeros_zero (k - length l))

pad_take : (k : ℕ) (l : List ℕ) → take (length l) (padded k l) ≡ l
pad_take k l = take_at l (replicate (k - length l) 0) (length l) refl

-- ---- ends

rising_less : (es : List ℕ) (i : ℕ) → rising (i + 1) es ≡ true → rising i es ≡ true
unfolding rising
rising_less [] i h = refl
rising_less (e ∷ es) i h =
    let l = leb-true (i + 1) e (both_left (leb (i + 1) e) _ h) in
    both (leb i e) _ (le-leb i e (omega arith)) (both_right (leb (i + 1) e) _ h)

ends_rising : (is : List Item) (i at : ℕ) → i + length (words_from at is) ≤ lines_limit → rising i (ends_from i is) ≡ true
unfolding ends_from words_from rising
ends_rising [] i at h = rw (le-leb i i (omega arith), le-leb i lines_limit (omega arith))
ends_rising (does s ∷ is) i at h = rising_less (ends_from (i + 1) is) i (ends_rising is (i + 1) (at + length (data_of s)) (omega arith))
ends_rising (next ∷ is) i at h =
    rw (le-leb i i (omega arith), le-leb i lines_limit (omega arith)) (ends_rising is i at h)

last_end_lem : (is : List Item) (i at : ℕ) → last_end i (ends_from i is) ≡ i + length (words_from at is)
unfolding ends_from words_from last_end
last_end_lem [] i at = omega arith
last_end_lem (does s ∷ is) i at = more (ends_from (i + 1) is) (ends_count is (i + 1)) ∙ last_end_lem is (i + 1) (at + length (data_of s)) ∙ omega arith
  where
    -- where there is an end, the first place does not matter
    more : (es : List ℕ) → length es ≡ nexts_in is + 1 → last_end i es ≡ last_end (i + 1) es
    more [] e = absurd (omega arith)
    more (x ∷ es) e = refl
last_end_lem (next ∷ is) i at = last_end_lem is i at

-- ---- words

cell_bytes : (at : ℕ) (s : Statement) → bytes_of_cell (cell_for at s) ≡ length (data_of s)
unfolding bytes_of_cell cell_for data_of
cell_bytes at (send bs) = refl
cell_bytes at (loop n) = refl
cell_bytes at end = refl
cell_bytes at (wait_time n) = refl
cell_bytes at (wait_data bs) = refl
cell_bytes at (wait_byte n) = refl
cell_bytes at (wait_clock vs) = refl
cell_bytes at (wait_signal n on) = refl
cell_bytes at (rts on) = refl
cell_bytes at (log text) = refl
cell_bytes at fchange = refl
cell_bytes at pause = refl
cell_bytes at resume = refl
cell_bytes at nop = refl

-- the cell of a right statement fits where its data lie
cell_fits_lem : (pool : List ℕ) (at : ℕ) (s : Statement) → right s ≡ true → take (length (data_of s)) (drop at pool) ≡ data_of s → cell_fits pool at (cell_for at s) ≡ true
unfolding right data_of cell_for cell_fits follows
cell_fits_lem pool at (send bs) r e = rw (eq-eqb at at refl, e) r
cell_fits_lem pool at (loop n) r e = refl
cell_fits_lem pool at end r e = refl
cell_fits_lem pool at (wait_time n) r e = refl
cell_fits_lem pool at (wait_data bs) r e = rw (eq-eqb at at refl, e) (both_right (not (same bs [])) _ r)
cell_fits_lem pool at (wait_byte n) r e = refl
cell_fits_lem pool at (wait_clock vs) r e = refl
cell_fits_lem pool at (wait_signal n on) r e = refl
cell_fits_lem pool at (rts on) r e = refl
cell_fits_lem pool at (log text) r e = rw (eq-eqb at at refl, e) r
cell_fits_lem pool at fchange r e = refl
cell_fits_lem pool at pause r e = refl
cell_fits_lem pool at resume r e = refl
cell_fits_lem pool at nop r e = refl

words_fit_lem : (pool rest : List ℕ) (is : List Item) (at : ℕ) → all_right is ≡ true → drop at pool ≡ pool_of is ++ rest → at + length (pool_of is) ≤ data_limit
    → (words_fit pool at (words_from at is) ≡ true) × (words_end at (words_from at is) ≡ at + length (pool_of is))
unfolding all_right pool_of words_from words_fit words_end
words_fit_lem pool rest [] at r e l = (refl, omega arith)
words_fit_lem pool rest (does s ∷ is) at r e l =
    let rs = both_left (right s) _ r in
    let size : length (data_of s ++ pool_of is) ≡ length (data_of s) + length (pool_of is) = length-append (data_of s) (pool_of is) in
    let whole : drop at pool ≡ data_of s ++ (pool_of is ++ rest) = e ∙ append_assoc (data_of s) (pool_of is) rest in
    let held : take (length (data_of s)) (drop at pool) ≡ data_of s = rw whole (take_at (data_of s) (pool_of is ++ rest) (length (data_of s)) refl) in
    let behind : drop (at + length (data_of s)) pool ≡ pool_of is ++ rest =
    sym (drop-drop (length (data_of s)) at pool) ∙ rw whole (drop_at (data_of s) (pool_of is ++ rest) (length (data_of s)) refl)
    in
    let code : decoded (coded (cell_for at s)) ≡ cell_for at s = decode_code (cell_for at s) (cell_right_lem at s rs (omega arith)) in
    let r₁ = words_fit_lem pool rest is (at + length (data_of s)) (both_right (right s) _ r) behind (omega arith) in
    let n : bytes_of_cell (decoded (coded (cell_for at s))) ≡ length (data_of s) = ap bytes_of_cell code ∙ cell_bytes at s in
    let sum : at + length (data_of s) + length (pool_of is) ≡ at + length (data_of s ++ pool_of is) = omega arith in (
      rw (code, cell_bytes at s) (both (cell_fits pool at (cell_for at s)) _ (cell_fits_lem pool at s rs held) r₁.0),
      ap (λ (k : ℕ). words_end (at + k) (words_from (at + length (data_of s)) is)) n ∙ (r₁.1 ∙ sum),
    )
words_fit_lem pool rest (next ∷ is) at r e l = words_fit_lem pool rest is at r e l

-- ---- settings

encode_fits : (e : Encode) → cond (encodes e) true (eqb (encode_byte_of e) 0) ≡ true
encode_fits unset = refl
encode_fits (byte b) = refl

-- ---- the whole

module _ (stretch : List Statement → ℕ) (s : Script) (g : Good stretch s) where
  lines_few : length s.body ≤ lines_limit
  lines_few = omega (arith, lines_count s, g.lines)

  words_few : length (words_from 0 s.body) ≤ lines_limit
  words_few = omega (arith, items_count s.body 0, lines_few)

  abbrev es : List ℕ
  es = ends_from 0 s.body

  pub laid_ends : ends_right (heads_of s) ≡ true
  unfolding ends_right heads_of
  laid_ends =
      let n = ends_count s.body 0 in
      let some : 1 ≤ length es = omega arith in
      let few : length es ≤ process_limit = omega (arith, g.few) in
      rw (le-leb 1 (length es) some, le-leb (length es) process_limit few, pad_take process_limit es, ends_rising s.body 0 0 (omega (arith, words_few)), pad_drop process_limit es)

  pub laid_cells : cells_right (laid_out s).cells (laid_out s).pool (heads_of s) ≡ true
  unfolding cells_fit heads_of laid_out
  laid_cells =
      let ws : List ℕ = words_from 0 s.body in
      let bytes : List ℕ = pool_of s.body in
      let used : length bytes ≤ data_limit = omega (arith, pool_length s.body, g.bytes) in
      let last : last_end 0 es ≡ length ws = last_end_lem s.body 0 0 ∙ omega arith in
      let fit = words_fit_lem (padded data_limit bytes) (replicate (data_limit - length bytes) 0) s.body 0 g.rights refl (omega arith) in
      let end : words_end 0 ws ≡ length bytes = fit.1 ∙ omega arith in
      rw (pad_take process_limit es, last, pad_take lines_limit ws, fit.0, pad_drop lines_limit ws, end, eq-eqb (length bytes) (length bytes) refl, le-leb (length bytes) data_limit used, pad_drop data_limit bytes)

  pub laid_settings : settings_right s.settings ≡ true → settings_fit (heads_of s) ≡ true
  unfolding settings_fit
  laid_settings r =
      let letters : letters_of (heads_of s).extension ≡ s.settings.lfext = unfold settings_of in ap (λ (x : Settings). x.lfext) (settings_back s r) in
      rw letters
      (unfold heads_of in
      rw (encode_fits s.settings.encode, le-leb (length s.settings.omit) omit_limit g.settings.omitted, pad_drop omit_limit s.settings.omit, g.settings.lfext, pad_drop 3 s.settings.lfext))
