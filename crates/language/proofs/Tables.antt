-- A TABLE HOLDS ITS SCRIPT: what is read from the table that a right script is laid out in is that script. Assumes nothing.
use Prim.Native.Nat.{ℕ, zero, suc, ◌+◌, ◌-◌, ◌≤◌, ◌<◌}
use mathlib.Core.Path.{◌≡◌, refl, sym, ap, ap₂, ◌∙◌}
use mathlib.Core.Bool.{true, cond, ◌&&◌}
use mathlib.Core.List.{List, [], ◌∷◌, ◌++◌, append_assoc}
use native.Mathlib.Numerals.{add-one}
use native.Mathlib.Omega.{arith}
use lib.Dec.{ltb, leb}
use lib.ListN.{length, take, drop, get_or, replicate, length-append, length-take}
use lib.Seq.{slice, slice_empty, drop-cons, get_or-take, append_snoc, take_at, drop_at, get_or_at, drop-drop}
use borrow.Author.Tests.{ne_eqb}
use Rattle.reader.specs.Bytes.{all}
use Rattle.reader.proofs.Tests.{both_left, both_right, true_is_false}
use Rattle.language.specs.Limits.{lines_limit, data_limit, omit_limit, process_limit}
use Rattle.language.specs.Script.{Statement, Encode, unset, byte, Settings, Item, does, next, Script, data_of}
use Rattle.language.specs.Meaning.{is_capital, extension}
use Rattle.language.specs.Right.{is_byte, right, encode_right, settings_right, all_right, data_in}
use Rattle.language.specs.Cell.{coded, decoded}
use Rattle.language.specs.Table.{padded, cell_for, words_from, pool_of, ends_from, encodes, encode_byte_of, heads_of, laid_out, statement_of, items_of, body_from, letters_of, settings_of, script_of}
use Rattle.language.proofs.Cells.{decode_code}
use Rattle.language.proofs.TableCells.{cell_right_lem, statement_back}

-- ---- the body

-- some ends, the first of them at `i` or after it
abbrev From : ℕ → List ℕ → Type 0
From i [] = ⊥
From i (e ∷ es) = i ≤ e

ends_from_lem : (is : List Item) (i : ℕ) → From i (ends_from i is)
unfolding ends_from
ends_from_lem [] i = omega arith
ends_from_lem (does s ∷ is) i = later (ends_from (i + 1) is) (ends_from_lem is (i + 1))
  where
    later : (es : List ℕ) → From (i + 1) es → From i es
    later [] h = h
    later (e ∷ es) h = omega arith
ends_from_lem (next ∷ is) i = omega arith

-- the word at `i` is the first of those from `i` on
slice_more : (ws : List ℕ) (i e : ℕ) → i + 1 ≤ e → i < length ws → slice i e ws ≡ get_or ws i 0 ∷ slice (i + 1) e ws
slice_more ws i e h l =
    let long : i < length (take e ws) = simp length-take (omega arith) in
    drop-cons (take e ws) i 0 long ∙ ap₂ (λ (w k : ℕ). w ∷ slice k e ws) (get_or-take e ws i 0 (omega arith)) (sym (add-one i))

items_more : (pool ws : List ℕ) (i e : ℕ) → i + 1 ≤ e → i < length ws
    → items_of pool (slice i e ws) ≡ does (statement_of pool (decoded (get_or ws i 0))) ∷ items_of pool (slice (i + 1) e ws)
unfolding items_of
items_more pool ws i e h l = ap (items_of pool) (slice_more ws i e h l)

body_more : (pool ws : List ℕ) (i : ℕ) (es : List ℕ) → From (i + 1) es → i < length ws
    → body_from pool ws i es ≡ does (statement_of pool (decoded (get_or ws i 0))) ∷ body_from pool ws (i + 1) es
unfolding body_from
body_more pool ws i [] h l = absurd h
body_more pool ws i (e ∷ []) h l = items_more pool ws i e h l
body_more pool ws i (e ∷ f ∷ es) h l = ap (λ (is : List Item). is ++ next ∷ body_from pool ws e (f ∷ es)) (items_more pool ws i e h l)

-- an empty process in front of others
body_next : (pool ws : List ℕ) (i : ℕ) (es : List ℕ) → From i es → body_from pool ws i (i ∷ es) ≡ next ∷ body_from pool ws i es
unfolding body_from items_of
body_next pool ws i [] h = absurd h
body_next pool ws i (f ∷ es) h = rw (slice_empty i ws)

module _ (pool ws : List ℕ) where
  -- the words from `i` on and the bytes from `at` on are those of some items
  record Holds (i at : ℕ) (is : List Item) : Type 0 where
    before : List ℕ
    behind : List ℕ
    rest : List ℕ
    words : ws ≡ before ++ (words_from at is ++ behind)
    place : length before ≡ i
    bytes : drop at pool ≡ pool_of is ++ rest
    fits : at + length (pool_of is) ≤ data_limit

  step : (i at : ℕ) (s : Statement) (is : List Item) → Holds i at (does s ∷ is) → Holds (i + 1) (at + length (data_of s)) is
  unfolding words_from pool_of
  step i at s is h =
      record {
        before = h.before ++ coded (cell_for at s) ∷ [];
        behind = h.behind;
        rest = h.rest;
        words = h.words ∙ sym (append_snoc h.before (coded (cell_for at s)) (words_from (at + length (data_of s)) is ++ h.behind));
        place = simp length-append (omega (arith, h.place));
        bytes = sym (drop-drop (length (data_of s)) at pool) ∙ rw (h.bytes, append_assoc) (drop_at (data_of s) (pool_of is ++ h.rest) (length (data_of s)) refl);
        fits = omega (arith, simp length-append at h.fits);
      }

  body_back : (is : List Item) (i at : ℕ) → all_right is ≡ true → Holds i at is → body_from pool ws i (ends_from i is) ≡ is
  unfolding ends_from all_right
  body_back [] i at r h = unfold body_from items_of in rw (slice_empty i ws)
  body_back (does s ∷ is) i at r h =
      let right-s = both_left (right s) (all_right is) r in
      let here : get_or ws i 0 ≡ coded (cell_for at s) =
      unfold words_from in rw h.words (get_or_at h.before (coded (cell_for at s)) (words_from (at + length (data_of s)) is ++ h.behind) 0 i h.place)
      in
      let long : i < length ws = unfold words_from in omega (arith, h.place, simp length-append at (ap length h.words)) in
      let held : take (length (data_of s)) (drop at pool) ≡ data_of s =
      unfold pool_of in rw (h.bytes, append_assoc) (take_at (data_of s) (pool_of is ++ h.rest) (length (data_of s)) refl)
      in
      let fits : at + length (data_of s) ≤ data_limit = unfold pool_of in omega (arith, simp length-append at h.fits) in
      body_more pool ws i (ends_from (i + 1) is) (ends_from_lem is (i + 1)) long
      ∙ rw (here, decode_code (cell_for at s) (cell_right_lem at s right-s fits), statement_back pool at s right-s held, body_back is (i + 1) (at + length (data_of s)) (both_right (right s) (all_right is) r) (step i at s is h))
  body_back (next ∷ is) i at r h =
      body_next pool ws i (ends_from i is) (ends_from_lem is i) ∙ ap (λ (l : List Item). next ∷ l) (body_back is i at r (unfold words_from pool_of in record { before = h.before; behind = h.behind; rest = h.rest; words = h.words; place = h.place; bytes = h.bytes; fits = h.fits }))

-- ---- settings

letters_zeros : (n : ℕ) → letters_of (replicate n 0) ≡ []
unfolding letters_of
letters_zeros zero = refl
letters_zeros (suc n) = refl

capital_some : (b : ℕ) → is_capital b ≡ true → b ≡ 0 → ⊥
unfolding is_capital
capital_some b h e = true_is_false (sym (rw e at h))

letters_back : (l : List ℕ) (n : ℕ) → all is_capital l ≡ true → letters_of (l ++ replicate n 0) ≡ l
unfolding letters_of
letters_back [] n h = letters_zeros n
letters_back (b ∷ l) n h =
    rw (ne_eqb b 0 (capital_some b (both_left (is_capital b) _ h)), letters_back l n (both_right (is_capital b) _ h))

encode_back : (e : Encode) → cond (encodes e) (byte (encode_byte_of e)) unset ≡ e
encode_back unset = refl
encode_back (byte b) = refl

letters_of_lem : (s : Settings) → settings_right s ≡ true → all is_capital s.lfext ≡ true
unfolding settings_right extension
letters_of_lem s h =
    let a = both_right (encode_right s.encode) _ h in
    let b = both_right (all is_byte s.omit) _ a in
    let c = both_right (leb (length s.omit) omit_limit) _ b in
    both_right (ltb 0 (length s.lfext) && leb (length s.lfext) 3) _ c

pub settings_back : (s : Script) → settings_right s.settings ≡ true → settings_of (heads_of s) ≡ s.settings
unfolding settings_of heads_of
settings_back s h =
    rw (
      encode_back s.settings.encode,
      take_at s.settings.omit (replicate (omit_limit - length s.settings.omit) 0) (length s.settings.omit) refl,
      letters_back s.settings.lfext (3 - length s.settings.lfext) (letters_of_lem s.settings h),
    )

-- ---- the whole

pub pool_length : (is : List Item) → length (pool_of is) ≡ data_in is
unfolding pool_of data_in
pool_length [] = refl
pool_length (does s ∷ is) = length-append (data_of s) (pool_of is) ∙ ap (λ (n : ℕ). length (data_of s) + n) (pool_length is)
pool_length (next ∷ is) = pool_length is

pub script_back : (s : Script) → settings_right s.settings ≡ true → all_right s.body ≡ true → data_in s.body ≤ data_limit
    → script_of (laid_out s) ≡ s
unfolding script_of laid_out heads_of
script_back s h r l =
    let es : List ℕ = ends_from 0 s.body in
    let ends : take (length es) (padded process_limit es) ≡ es = take_at es (replicate (process_limit - length es) 0) (length es) refl in
    let pool : List ℕ = padded data_limit (pool_of s.body) in
    let words : List ℕ = padded lines_limit (words_from 0 s.body) in
    let holds : Holds pool words 0 0 s.body =
    record { before = []; behind = replicate (lines_limit - length (words_from 0 s.body)) 0; rest = replicate (data_limit - length (pool_of s.body)) 0; words = refl; place = refl; bytes = refl; fits = omega (arith, pool_length s.body) }
    in
    let body : body_from pool words 0 (take (length es) (padded process_limit es)) ≡ s.body = rw ends (body_back pool words s.body 0 0 r holds) in
    ap₂ (λ (g : Settings) (b : List Item). record { settings = g; body = b }) (settings_back s h) body
