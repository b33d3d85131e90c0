-- PLACES IN A TEXT: a part of it, the CR at its end, and the lines of what is left. Assumes nothing.
use Rattle.std.specs.Prelude.{Some, None, position}
use Rattle.std.proofs.lemmas.List.Quantifiers.{position-Some}
use Rattle.std.proofs.lemmas.List.Sums.{prefix_len_passes}
use Rattle.std.proofs.lemmas.Grind.{common_steps}
use Rattle.std.specs.List.{position_or_len}
use Prim.Native.Nat.{ℕ, zero, suc, ◌+◌, ◌-◌, ◌≤◌, ◌<◌}
use mathlib.Core.Path.{◌≡◌, refl, sym, ap, ◌∙◌}
use mathlib.Core.Bool.{Bool, true, not, ◌&&◌, and-true, and_assoc}
use mathlib.Core.List.{List, [], ◌∷◌, ◌++◌}
use native.Mathlib.Numerals.{add-one}
use native.Mathlib.Omega.{arith}
use lib.Dec.{leb, eqb}
use lib.ListN.{length, get_or, take, drop, length-drop, take-append-drop, drop_of_length-le}
use lib.Seq.{take-suc, take-add, get_or-drop, length-take-le, drop-drop, drop-cons, take_all}
use borrow.Author.Tests.{eqb-true, leb-true, eq-eqb, ne_eqb}
use Rattle.reader.specs.Bytes.{all}
use Rattle.reader.proofs.Tests.{both_left, both_right, all_append}
use Rattle.language.specs.Lines.{drop_cr, raw_lines, each_line, lines_of}
use Rattle.language.proofs.Bytes.{are_bytes}
use Rattle.language.proofs.Cutting.{NoLf, Begun, line_ended_lem, line_last, line_begun, cr_last, AllInLine, text_lines}
use Rattle.compiler.specs.Inside.Text.{part, no_lf, clear_from, EndsAt}

pub part_none : (s : List ℕ) (a : ℕ) → part s a a ≡ []
part_none s a = let n : a - a ≡ 0 = omega arith in rw n

module _ (s : List ℕ) (a e : ℕ) (from : a ≤ e) where
  pub part_more : e < length s → part s a (e + 1) ≡ part s a e ++ get_or s e 0 ∷ []
  part_more h =
      let n : e + 1 - a ≡ suc (e - a) = omega arith in
      let m : a + (e - a) ≡ e = omega arith in
      let k : e - a < length (drop a s) = omega (arith, length-drop a s) in
      rw n (take-suc (drop a s) (e - a) 0 k ∙ rw (get_or-drop a s (e - a) 0, m))

  pub part_length : e ≤ length s → length (part s a e) ≡ e - a
  part_length h = length-take-le (e - a) (drop a s) (omega (arith, length-drop a s))

  -- what is left is the part and what is left after it
  split : drop a s ≡ part s a e ++ drop e s
  split =
      let m : a + (e - a) ≡ e = omega arith in
      sym (take-append-drop (e - a) (drop a s)) ∙ ap (λ (l : List ℕ). part s a e ++ l) (drop-drop (e - a) a s ∙ rw m)

-- two parts that meet are one
part_joined : (s : List ℕ) (a m e : ℕ) → a ≤ m → m ≤ e → part s a e ≡ part s a m ++ part s m e
part_joined s a m e h k =
    let n : e - a ≡ m - a + (e - m) = omega arith in
    let o : a + (m - a) ≡ m = omega arith in
    rw n (take-add (m - a) (e - m) (drop a s) ∙ rw (drop-drop (m - a) a s, o))

-- ---- no LF among them

all_snoc : (p : ℕ → Bool) (l : List ℕ) (b : ℕ) → all p (l ++ b ∷ []) ≡ (all p l && p b)
all_snoc p [] b = and-true (p b)
all_snoc p (x ∷ l) b = rw (all_snoc p l b) (sym (and_assoc (p x) (all p l) (p b)))

-- one byte more
pub no_lf_next : (s : List ℕ) (a e : ℕ) → a ≤ e → e < length s → no_lf (part s a (e + 1)) ≡ (no_lf (part s a e) && not (eqb (get_or s e 0) 10))
no_lf_next s a e from h = ap no_lf (part_more s a e from h) ∙ all_snoc (λ b. not (eqb b 10)) (part s a e) (get_or s e 0)

pub no_lf_more : (s : List ℕ) (a e : ℕ) → a ≤ e → e < length s → (get_or s e 0 ≡ 10 → ⊥) → NoLf (part s a e) → NoLf (part s a (e + 1))
no_lf_more s a e from h n c = no_lf_next s a e from h ∙ rw (c, ne_eqb _ _ n)

pub no_lf_joined : (s : List ℕ) (a m e : ℕ) → a ≤ m → m ≤ e → NoLf (part s a m) → NoLf (part s m e) → NoLf (part s a e)
no_lf_joined s a m e h k p q = rw (part_joined s a m e h k) (all_append (λ b. not (eqb b 10)) (part s a m) (part s m e) p q)

-- sixteen bytes that are there and hold no LF
pub clear_fits : (s : List ℕ) (e : ℕ) → clear_from s e ≡ true → e + 16 ≤ length s
clear_fits s e h = leb-true (e + 16) (length s) (both_left (leb (e + 16) (length s)) (no_lf (part s e (e + 16))) h)

pub clear_past : (s : List ℕ) (a e : ℕ) → a ≤ e → clear_from s e ≡ true → NoLf (part s a e) → NoLf (part s a (e + 16))
clear_past s a e from h c =
    no_lf_joined s a e (e + 16) from (omega arith) c (both_right (leb (e + 16) (length s)) (no_lf (part s e (e + 16))) h)

-- what is left of a text
pub rest : (s : List ℕ) (from : ℕ) → take (length s - from) (drop from s) ≡ drop from s
rest s from = take_all (length s - from) (drop from s) (omega (arith, length-drop from s))

-- where the search for an LF finds one, and where it finds none
clear_before : (l : List ℕ) (n : ℕ) → ((k : ℕ) → k < n → not (eqb (get_or l k 0) 10) ≡ true) → no_lf (take n l) ≡ true
clear_before l zero h = refl
clear_before [] (suc n) h = refl
clear_before (b ∷ l) (suc n) h = rw (h 0 (omega arith)) (clear_before l n (λ k i. h (suc k) (omega arith)))

pub feed_at : (s : List ℕ) (from at : ℕ) → from ≤ length s → position (λ b. eqb b 10) (drop from s) ≡ Some at → EndsAt s from (from + at)
feed_at s from at h e =
    let found = position-Some (λ (b : ℕ). eqb b 10) (drop from s) at 0 e in
    let n : from + at - from ≡ at = omega arith in
    let inside : from + at < length s = omega (arith, found.0, length-drop from s) in
    record {
      begun = omega arith;
      upto = omega arith;
      clear = rw n (clear_before (drop from s) at (λ k i. rw (found.2 k i)));
      feed = λ _. eqb-true (get_or s (from + at) 0) 10 (rw get_or-drop at found.1);
    }

pub no_feed_left : (s : List ℕ) (from : ℕ) → from ≤ length s → position (λ b. eqb b 10) (drop from s) ≡ None → EndsAt s from (length s)
no_feed_left s from h e =
    let n : length s - from ≡ length (drop from s) = sym (length-drop from s) in
    let past : length (drop from s) ≤ position_or_len (λ (b : ℕ). eqb b 10) (drop from s) = grind (arith, common_steps) in
    record {
      begun = h;
      upto = omega arith;
      clear = rw n (clear_before (drop from s) (length (drop from s)) (λ k i. prefix_len_passes (λ (b : ℕ). not (eqb b 10)) (drop from s) k 0 (omega arith)));
      feed = λ k. absurd (omega arith);
    }

-- ---- one CR at the end

module _ (l : List ℕ) (some : 1 ≤ length l) where
  last : l ≡ take (length l - 1) l ++ get_or l (length l - 1) 0 ∷ []
  last =
      let n : length l ≡ suc (length l - 1) = omega arith in
      sym (take_all (length l) l (omega arith)) ∙ ap (λ (m : ℕ). take m l) n ∙ take-suc l (length l - 1) 0 (omega arith)

  pub cr_dropped : get_or l (length l - 1) 0 ≡ 13 → take (length l - 1) l ≡ drop_cr l
  cr_dropped k = sym (ap drop_cr last ∙ cr_last (take (length l - 1) l) (get_or l (length l - 1) 0) ∙ rw (eq-eqb _ _ k))

  pub cr_kept : (get_or l (length l - 1) 0 ≡ 13 → ⊥) → l ≡ drop_cr l
  cr_kept k = sym (ap drop_cr last ∙ cr_last (take (length l - 1) l) (get_or l (length l - 1) 0) ∙ rw (ne_eqb _ _ k) (sym last))

pub cr_none : (l : List ℕ) → length l < 1 → l ≡ drop_cr l
unfolding drop_cr
cr_none [] h = refl
cr_none (b ∷ l) h = absurd (omega arith)

-- ---- the lines of what is left

pub no_lines_lem : (s : List ℕ) (a : ℕ) → length s ≤ a → lines_of (drop a s) ≡ []
unfolding lines_of raw_lines each_line
no_lines_lem s a h = rw (drop_of_length-le s h)

pub in_lines : (s : List ℕ) (a : ℕ) → ((i : ℕ) → get_or s i 0 < 256) → AllInLine (lines_of (drop a s))
in_lines s a h = text_lines (drop a s) (are_bytes (drop a s) (λ i. rw (get_or-drop a s i 0) (h (a + i))))

module _ (s : List ℕ) (a e : ℕ) (from : a ≤ e) where
  -- an LF ends the line
  pub feed_ends : e < length s → get_or s e 0 ≡ 10 → NoLf (part s a e) → lines_of (drop a s) ≡ drop_cr (part s a e) ∷ lines_of (drop (e + 1) s)
  feed_ends h n c =
      ap lines_of (split s a e from ∙ ap (λ (l : List ℕ). part s a e ++ l) (rw (add-one e) (drop-cons s e 0 h ∙ rw n)))
      ∙ line_ended_lem (part s a e) (drop (e + 1) s) c

  -- and so does the end of the text
  pub text_ends : length s ≤ e → e ≤ length s → a < length s → NoLf (part s a e) → lines_of (drop a s) ≡ drop_cr (part s a e) ∷ lines_of (drop (e + 1) s)
  text_ends h k l c =
      let all_left : part s a e ≡ drop a s = take_all (e - a) (drop a s) (omega (arith, length-drop a s)) in
      let m : length s ≤ e + 1 = omega arith in
      rw (no_lines_lem s (e + 1) m, all_left) (go (drop a s) (omega (arith, length-drop a s)) (rw all_left at c))
    where
      go : (p : List ℕ) → 0 < length p → NoLf p → lines_of p ≡ drop_cr p ∷ []
      go [] i q = absurd (omega arith)
      go (b ∷ p) i q = line_last b p q

  -- bytes without an LF are the front of the first line
  pub begins : a < e → e ≤ length s → NoLf (part s a e) → Begun (part s a e) (drop e s)
  begins h k c = go (part s a e) (omega (arith, part_length s a e from k)) c
    where
      go : (p : List ℕ) → 0 < length p → NoLf p → Begun p (drop e s)
      go [] i q = absurd (omega arith)
      go (b ∷ p) i q = line_begun b p (drop e s) q

  pub first_lines : (b : Begun (part s a e) (drop e s)) → lines_of (drop a s) ≡ drop_cr b.first ∷ b.others
  first_lines b = ap lines_of (split s a e from) ∙ b.lines
