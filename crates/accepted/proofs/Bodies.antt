-- The body read from a table whose words fit: its words, its data and its ends are the table's. Assumes nothing.
use Prim.Native.Nat.{ℕ, suc, ◌+◌, ◌≤◌}
use mathlib.Core.Path.{◌≡◌, refl, sym, ap, ap₂, ◌∙◌}
use mathlib.Core.Bool.{Bool, true, false, ◌&&◌}
use mathlib.Core.List.{List, [], ◌∷◌, ◌++◌, append_assoc}
use native.Mathlib.Omega.{arith}
use lib.Dec.{leb}
use lib.ListN.{length, take, drop, length-append, length-take, take-append-drop}
use lib.Seq.{slice, length-slice, take-take, drop-append-le}
use borrow.Author.Tests.{leb-true}
use Rattle.reader.proofs.Tests.{both_left, both_right, both}
use Rattle.language.specs.Limits.{lines_limit, data_limit}
use Rattle.language.specs.Script.{Item, does, next, data_of}
use Rattle.language.specs.Right.{right, all_right}
use Rattle.language.specs.Cell.{decoded}
use Rattle.language.specs.Table.{words_from, pool_of, ends_from, items_of, body_from}
use Rattle.accepted.specs.Inside.Cells.{cell_fits, bytes_of_cell, words_fit, words_end}
use Rattle.accepted.specs.Inside.Heads.{rising, last_end}
use Rattle.accepted.proofs.Walk.{Walked, walked}

-- ---- lists joined

pub fit_append : (pool a b : List ℕ) (at : ℕ) → words_fit pool at (a ++ b) ≡ (words_fit pool at a && words_fit pool (words_end at a) b)
unfolding words_fit words_end
fit_append pool [] b at = refl
fit_append pool (w ∷ a) b at = rw (fit_append pool a b (at + bytes_of_cell (decoded w))) (and_assoc (cell_fits pool at (decoded w)) _ _)
  where
    and_assoc : (x y z : Bool) → (x && (y && z)) ≡ ((x && y) && z)
    and_assoc true y z = refl
    and_assoc false y z = refl

pub end_append : (a b : List ℕ) (at : ℕ) → words_end at (a ++ b) ≡ words_end (words_end at a) b
unfolding words_end
end_append [] b at = refl
end_append (w ∷ a) b at = end_append a b (at + bytes_of_cell (decoded w))

words_append : (is js : List Item) (at : ℕ) → words_from at (is ++ js) ≡ words_from at is ++ words_from (at + length (pool_of is)) js
unfolding words_from pool_of
words_append [] js at = let e : at + 0 ≡ at = omega arith in rw e
words_append (does s ∷ is) js at =
    let e : at + length (data_of s ++ pool_of is) ≡ at + length (data_of s) + length (pool_of is) = simp length-append (omega arith) in
    rw (e, words_append is js (at + length (data_of s)))
words_append (next ∷ is) js at = words_append is js at

pool_append : (is js : List Item) → pool_of (is ++ js) ≡ pool_of is ++ pool_of js
unfolding pool_of
pool_append [] js = refl
pool_append (does s ∷ is) js = rw (pool_append is js) (sym (append_assoc (data_of s) (pool_of is) (pool_of js)))
pool_append (next ∷ is) js = pool_append is js

rights_append : (is js : List Item) → all_right is ≡ true → all_right js ≡ true → all_right (is ++ js) ≡ true
unfolding all_right
rights_append [] js h k = k
rights_append (does s ∷ is) js h k = both (right s) _ (both_left (right s) _ h) (rights_append is js (both_right (right s) _ h) k)
rights_append (next ∷ is) js h k = rights_append is js h k

-- the items of two runs of words, with the mark of a further process between them
walked_next : {pool a b : List ℕ} {at m e : ℕ} {is js : List Item} → Walked pool at a is m → Walked pool m b js e → Walked pool at (a ++ b) (is ++ next ∷ js) e
unfolding words_from pool_of all_right
walked_next {pool} {a} {b} {at} {m} {e} {is} {js} p q =
    record {
      words = words_append is (next ∷ js) at ∙ ap₂ (λ (x y : List ℕ). x ++ y) p.words (rw p.size q.words);
      bytes = p.bytes ∙ rw (q.bytes, pool_append is (next ∷ js)) (sym (append_assoc (pool_of is) (pool_of js) (drop e pool)));
      size = rw (pool_append is (next ∷ js)) (simp length-append (omega (arith, p.size, q.size)));
      rights = rights_append is (next ∷ js) p.rights q.rights;
    }

-- ---- ends

ends_items : (pool ws : List ℕ) (i : ℕ) → ends_from i (items_of pool ws) ≡ (i + length ws) ∷ []
unfolding ends_from items_of
ends_items pool [] i = let e : i + 0 ≡ i = omega arith in rw e
ends_items pool (w ∷ ws) i = let e : i + 1 + length ws ≡ i + suc (length ws) = omega arith in ends_items pool ws (i + 1) ∙ rw e

ends_next : (pool ws : List ℕ) (js : List Item) (i : ℕ) → ends_from i (items_of pool ws ++ next ∷ js) ≡ (i + length ws) ∷ ends_from (i + length ws) js
unfolding ends_from items_of
ends_next pool [] js i = let e : i + 0 ≡ i = omega arith in rw e
ends_next pool (w ∷ ws) js i = let e : i + 1 + length ws ≡ i + suc (length ws) = omega arith in ends_next pool ws js (i + 1) ∙ rw e

-- ---- parts of the words

pub last_rises : (es : List ℕ) (i : ℕ) → rising i es ≡ true → i ≤ last_end i es
unfolding rising last_end
last_rises [] i h = omega arith
last_rises (e ∷ es) i h =
    let r = last_rises es e (both_right (leb e lines_limit) _ (both_right (leb i e) _ h)) in
    omega (arith, leb-true i e (both_left (leb i e) _ h))

slice_append : (ws : List ℕ) (i e l : ℕ) → i ≤ e → e ≤ l → e ≤ length ws → slice i l ws ≡ slice i e ws ++ slice e l ws
slice_append ws i e l h k n =
    let long : i ≤ length (take e (take l ws)) = simp (length-take) (omega arith) in
    ap (drop i) (sym (take-append-drop e (take l ws)))
    ∙ drop-append-le i (take e (take l ws)) (drop e (take l ws)) long
    ∙ rw (take-take e l ws k)

slice_long : (ws : List ℕ) (i e : ℕ) → i ≤ e → e ≤ length ws → i + length (slice i e ws) ≡ e
slice_long ws i e h k = rw (length-slice i e ws k) (omega arith)

-- ---- the body

pub record Body (pool ws : List ℕ) (i at : ℕ) (es : List ℕ) : Type 0 where
  pub walk : Walked pool at (slice i (last_end i es) ws) (body_from pool ws i es) (words_end at (slice i (last_end i es) ws))
  pub ends : ends_from i (body_from pool ws i es) ≡ es

pub body : (pool ws : List ℕ) → length pool ≡ data_limit → length ws ≡ lines_limit → (e : ℕ) (es : List ℕ) (i at : ℕ) → rising i (e ∷ es) ≡ true
    → words_fit pool at (slice i (last_end i (e ∷ es)) ws) ≡ true → Body pool ws i at (e ∷ es)
unfolding rising last_end body_from
body pool ws n m e [] i at r f =
    let low : i ≤ e = leb-true i e (both_left (leb i e) _ r) in
    let high : e ≤ length ws = rw m (leb-true e lines_limit (both_left (leb e lines_limit) _ (both_right (leb i e) _ r))) in
    record {
      walk = walked pool n (slice i e ws) at f;
      ends = ends_items pool (slice i e ws) i ∙ rw (slice_long ws i e low high);
    }
body pool ws n m e (f ∷ es) i at r h =
    let low : i ≤ e = leb-true i e (both_left (leb i e) _ r) in
    let r₁ = both_right (leb i e) _ r in
    let high : e ≤ length ws = rw m (leb-true e lines_limit (both_left (leb e lines_limit) _ r₁)) in
    let r₂ = both_right (leb e lines_limit) _ r₁ in
    let last : ℕ = last_end e (f ∷ es) in
    let parts = slice_append ws i e last low (last_rises (f ∷ es) e r₂) high in
    let fits = rw (parts, fit_append pool (slice i e ws) (slice e last ws) at) at h in
    let first = walked pool n (slice i e ws) at (both_left (words_fit pool at (slice i e ws)) _ fits) in
    let further = body pool ws n m f es e (words_end at (slice i e ws)) r₂ (both_right (words_fit pool at (slice i e ws)) _ fits) in
    record {
      walk = rw (parts, end_append (slice i e ws) (slice e last ws) at) (walked_next first further.walk);
      ends = ends_next pool (slice i e ws) (body_from pool ws e (f ∷ es)) i ∙ rw (slice_long ws i e low high) (ap (λ (l : List ℕ). e ∷ l) further.ends);
    }
