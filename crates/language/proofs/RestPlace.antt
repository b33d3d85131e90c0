-- THE FIRST BYTE THAT CANNOT BE TAKEN OF WHAT FOLLOWS A NAME: nothing but spaces and tabs, or behind them one word. Assumes nothing.
use Prim.Native.Nat.{ℕ, zero, suc, ◌+◌}
use mathlib.Core.Path.{◌≡◌, refl, sym, ap, subst, ◌∙◌}
use mathlib.Core.Bool.{Bool, true, false, cond, ◌&&◌}
use mathlib.Core.List.{List, [], ◌∷◌, ◌++◌}
use native.Mathlib.Omega.{arith}
use lib.Dec.{ltb}
use lib.Seq.{take-nil}
use borrow.Author.Tests.{ltb-true, ltb-false, lt-ltb, le-ltb}
use Rattle.reader.specs.Bytes.{all, is_blank}
use Rattle.reader.specs.FirstBad.{CanEnd, FirstBad}
use Rattle.reader.proofs.Tests.{true_is_false, and_false}
use Rattle.reader.proofs.FirstBad.{bad_end, bad_here, bad_next, bad_rest, bad_as, bad_from}
use Rattle.words.specs.Words.{skip, blanks, word_of, word_length, after_word, before_end, trim_end, argument}
use Rattle.language.specs.declared.TextFault.TheVariants.{BadRest}
use Rattle.language.specs.Script.{Meaning, fault}
use Rattle.language.specs.Meaning.{bare}
use Rattle.language.specs.Column.{faultless, in_word, behind_blanks}
use Rattle.language.proofs.WordPlace.{OneWord, right_checked}

-- what a reader of the rest owes where the rest is wrong; a space and something more make it right
pub record Follows (reader : List ℕ → Meaning) (taken : List ℕ → ℕ) : Type 0 where
  pub some : CanEnd (λ a. faultless (reader (32 ∷ a))) []
  pub first : (rest : List ℕ) → reader rest ≡ fault BadRest → FirstBad (λ a. faultless (reader a)) rest (taken rest)

-- ---- nothing but spaces and tabs

pub blanks_bad : (l : List ℕ) → FirstBad (λ a. all is_blank a) l (blanks l)
unfolding blanks
blanks_bad [] = bad_end (record { ending = []; holds = refl; makes = refl })
blanks_bad (b ∷ l) = by_byte (blanks_bad l) (is_blank b) refl
  where
    by_byte : FirstBad (λ a. all is_blank a) l (blanks l) → (t : Bool) → is_blank b ≡ t → FirstBad (λ a. all is_blank a) (b ∷ l) (cond (is_blank b) (suc (blanks l)) 0)
    by_byte f true e = rw e (bad_next b l (bad_as (λ a. rw e) f))
    by_byte f false e = rw e (bad_here b l (record { ending = []; holds = refl; makes = refl }) (λ a. rw e))

pub bare_follows : (m : Meaning) → faultless m ≡ true → Follows (bare m) blanks
unfolding bare is_blank
bare_follows m h =
    record {
      some = record { ending = []; holds = refl; makes = right_checked true m h };
      first = λ rest _. bad_as (λ a. sym (right_checked (all is_blank a) m h)) (blanks_bad rest);
    }

-- ---- behind the spaces and tabs at the front

module _ {right : List ℕ → Bool} (c : CanEnd (λ a. right (skip a)) []) where
  pub skip_bad : (l : List ℕ) (p : ℕ) → FirstBad right (skip l) p → FirstBad (λ a. right (skip a)) l (blanks l + p)
  unfolding skip blanks
  skip_bad [] p f = let z : 0 + p ≡ 0 = omega (arith, f.inside) in rw z (bad_end c)
  skip_bad (b ∷ l) p f = by_byte (λ g. skip_bad l p g) (is_blank b) refl f
    where
      by_byte : (FirstBad right (skip l) p → FirstBad (λ a. right (skip a)) l (blanks l + p)) → (t : Bool) → is_blank b ≡ t
          → FirstBad right (cond (is_blank b) (skip l) (b ∷ l)) p → FirstBad (λ a. right (skip a)) (b ∷ l) (cond (is_blank b) (suc (blanks l)) 0 + p)
      by_byte g true e k =
          let z : suc (blanks l) + p ≡ suc (blanks l + p) = omega arith in
          rw (e, z) (bad_next b l (bad_as (λ a. rw e) (g (rw e at k))))
      by_byte g false e k = let z : 0 + p ≡ p = omega arith in rw (e, z) (bad_from b l p c (λ a. rw e) (rw e at k))

-- ---- the spaces and tabs at the end

-- a byte that is none of them is kept
pub trim_kept : (b : ℕ) (a : List ℕ) → is_blank b ≡ false → trim_end (b ∷ a) ≡ b ∷ trim_end a
unfolding trim_end before_end
trim_kept b a h = go (trim_end a)
  where
    go : (l : List ℕ) → before_end b l ≡ b ∷ l
    go [] = rw h
    go (c ∷ l) = refl

-- all is gone, or something is kept
data Trimmed (a : List ℕ) : Type 0 where
  gone : all is_blank a ≡ true → trim_end a ≡ [] → Trimmed a
  kept : all is_blank a ≡ false → (c : ℕ) (l : List ℕ) → trim_end a ≡ c ∷ l → Trimmed a

more_trimmed : (b : ℕ) (a : List ℕ) → Trimmed a → Trimmed (b ∷ a)
unfolding trim_end before_end
more_trimmed b a (gone p q) = by_byte (is_blank b) refl
  where
    by_byte : (t : Bool) → is_blank b ≡ t → Trimmed (b ∷ a)
    by_byte true e = gone (rw e p) (rw (q, e))
    by_byte false e = kept (rw e) b [] (rw (q, e))
more_trimmed b a (kept p c l q) = kept (rw p (and_false (is_blank b))) b (c ∷ l) (rw q)

trimmed : (a : List ℕ) → Trimmed a
unfolding trim_end
trimmed [] = gone refl refl
trimmed (b ∷ a) = more_trimmed b a (trimmed a)

-- ---- one word

-- no space or tab stands in what is right
abbrev Solid : (List ℕ → Bool) → Type 0
Solid right = (x y : List ℕ) (b : ℕ) → is_blank b ≡ true → right (x ++ b ∷ y) ≡ false

-- so what is right has none at its front or its end
right_trimmed : (right : List ℕ → Bool) → Solid right → (e : List ℕ) → right e ≡ true → trim_end e ≡ e
unfolding trim_end
right_trimmed right s [] h = refl
right_trimmed right s (b ∷ e) h = by_byte (right_trimmed (λ a. right (b ∷ a)) (λ x y c k. s (b ∷ x) y c k) e h) (is_blank b) refl
  where
    by_byte : trim_end e ≡ e → (t : Bool) → is_blank b ≡ t → before_end b (trim_end e) ≡ b ∷ e
    by_byte r true k = true_is_false (sym h ∙ s [] e b k)
    by_byte r false k = trim_kept b e k ∙ ap (λ (l : List ℕ). b ∷ l) r

right_skipped : (right : List ℕ → Bool) → Solid right → (e : List ℕ) → right e ≡ true → skip e ≡ e
unfolding skip
right_skipped right s [] h = refl
right_skipped right s (b ∷ e) h = by_byte (is_blank b) refl
  where
    by_byte : (t : Bool) → is_blank b ≡ t → cond (is_blank b) (skip e) (b ∷ e) ≡ b ∷ e
    by_byte true k = true_is_false (sym h ∙ s [] e b k)
    by_byte false k = rw k

module _ (right : List ℕ → Bool) (s : Solid right) where
  end_trimmed : CanEnd right [] → CanEnd (λ a. right (trim_end a)) []
  end_trimmed c = record { ending = c.ending; holds = c.holds; makes = ap right (right_trimmed right s c.ending c.makes) ∙ c.makes }

  -- behind a word: a space or a tab ends it
  blank_right : (b : ℕ) (a : List ℕ) → is_blank b ≡ true → right (trim_end (b ∷ a)) ≡ (right [] && all is_blank a)
  unfolding trim_end before_end
  blank_right b a h = go (trimmed a)
    where
      and-true : (t : Bool) → t ≡ (t && true)
      and-true true = refl
      and-true false = refl

      go : Trimmed a → right (before_end b (trim_end a)) ≡ (right [] && all is_blank a)
      go (gone p q) = rw (q, h, p) (and-true (right []))
      go (kept p c l q) = rw (q, p) (s [] (c ∷ l) b h ∙ sym (and_false (right [])))

-- how much can be taken behind the blanks, `n` bytes of the word being taken, and the word being right or not
abbrev place : ℕ → Bool → List ℕ → ℕ
place n t l = cond (ltb n (word_length l)) n (cond t (word_length l + blanks (after_word l)) (word_length l))

place_next : (n w k : ℕ) (t : Bool) → cond (ltb (suc n) (suc w)) (suc n) (cond t (suc w + k) (suc w)) ≡ suc (cond (ltb n w) n (cond t (w + k) w))
place_next n w k t = go (ltb n w) refl t
  where
    go : (u : Bool) → ltb n w ≡ u → (t : Bool) → cond (ltb (suc n) (suc w)) (suc n) (cond t (suc w + k) (suc w)) ≡ suc (cond u n (cond t (w + k) w))
    go true e t = rw (lt-ltb (suc n) (suc w) (omega (arith, ltb-true n w e)))
    go false e true = rw (le-ltb (suc n) (suc w) (omega (arith, ltb-false n w e))) (omega arith)
    go false e false = rw (le-ltb (suc n) (suc w) (omega (arith, ltb-false n w e)))

-- nothing of the word is left, at the end of all or before a space or a tab
module _ (right : List ℕ → Bool) (s : Solid right) (c : CanEnd right []) where
  all_ended : (t : Bool) → FirstBad (λ a. right (trim_end a)) [] (cond t (0 + 0) 0)
  all_ended true = bad_end (end_trimmed right s c)
  all_ended false = bad_end (end_trimmed right s c)

  word_ended : (b : ℕ) (l : List ℕ) → is_blank b ≡ true → (t : Bool) → right [] ≡ t → FirstBad (λ a. right (trim_end a)) (b ∷ l) (cond t (0 + blanks (b ∷ l)) 0)
  word_ended b l h true e =
      let z : 0 + blanks (b ∷ l) ≡ blanks (b ∷ l) = omega arith in
      rw z (bad_from b l (blanks (b ∷ l)) (end_trimmed right s c) (λ a. sym (blank_right right s b a h ∙ rw (e, h))) (blanks_bad (b ∷ l)))
  word_ended b l h false e = bad_here b l (end_trimmed right s c) (λ a. blank_right right s b a h ∙ rw e)

-- a byte of the word, taken or not
module _ (right : List ℕ → Bool) (s : Solid right) (b : ℕ) (l : List ℕ) (h : is_blank b ≡ false) where
  word_here : FirstBad right (b ∷ word_of l) 0 → FirstBad (λ a. right (trim_end a)) (b ∷ l) 0
  word_here f = bad_here b l (end_trimmed right s f.before) (λ a. ap right (trim_kept b a h) ∙ f.never (omega arith) (trim_end a))

  word_next : {p : ℕ} → FirstBad (λ a. right (b ∷ trim_end a)) l p → FirstBad (λ a. right (trim_end a)) (b ∷ l) (suc p)
  word_next f = bad_next b l (bad_as (λ a. ap right (sym (trim_kept b a h))) f)

word_bad : (l : List ℕ) (right : List ℕ → Bool) → Solid right → (n : ℕ) → FirstBad right (word_of l) n
    → FirstBad (λ a. right (trim_end a)) l (place n (right (word_of l)) l)
unfolding word_of word_length after_word blanks
word_bad [] right s zero f = all_ended right s f.before (right [])
word_bad [] right s (suc n) f = absurd (omega (arith, f.inside))
word_bad (b ∷ l) right s zero f = by_byte (is_blank b) refl f
  where
    by_byte : (t : Bool) → is_blank b ≡ t → FirstBad right (cond t [] (b ∷ word_of l)) 0
        → FirstBad (λ a. right (trim_end a)) (b ∷ l)
        (cond (ltb 0 (cond t 0 (suc (word_length l)))) 0
        (cond (right (cond t [] (b ∷ word_of l))) (cond t 0 (suc (word_length l)) + blanks (cond t (b ∷ l) (after_word l))) (cond t 0 (suc (word_length l)))))
    by_byte true h f = word_ended right s f.before b l h (right []) refl
    by_byte false h f = rw (lt-ltb 0 (suc (word_length l)) (omega arith)) (word_here right s b l h f)
word_bad (b ∷ l) right s (suc n) f = by_byte (λ g. word_bad l (λ a. right (b ∷ a)) (λ x y c k. s (b ∷ x) y c k) n g) (is_blank b) refl f
  where
    by_byte : (FirstBad (λ a. right (b ∷ a)) (word_of l) n → FirstBad (λ a. right (b ∷ trim_end a)) l (place n (right (b ∷ word_of l)) l))
        → (t : Bool) → is_blank b ≡ t → FirstBad right (cond t [] (b ∷ word_of l)) (suc n)
        → FirstBad (λ a. right (trim_end a)) (b ∷ l)
        (cond (ltb (suc n) (cond t 0 (suc (word_length l)))) (suc n)
        (cond (right (cond t [] (b ∷ word_of l))) (cond t 0 (suc (word_length l)) + blanks (cond t (b ∷ l) (after_word l))) (cond t 0 (suc (word_length l)))))
    by_byte g true h f = absurd (omega (arith, f.inside))
    by_byte g false h f =
        rw (place_next n (word_length l) (blanks (after_word l)) (right (b ∷ word_of l)))
        (word_next right s b l h (g (bad_rest b (word_of l) f)))

-- an argument of one word, with the spaces and tabs around it
module _ {reader : List ℕ → Meaning} {taken : List ℕ → ℕ} (w : OneWord reader taken) where
  abbrev right : List ℕ → Bool
  right a = faultless (reader a)

  some_word : CanEnd (λ a. right (trim_end (skip a))) []
  some_word =
      let c : CanEnd right [] = subst (CanEnd right) (take-nil (taken [])) (w.first []).before in
      let e = c.ending in
      let is : trim_end (skip e) ≡ e = ap trim_end (right_skipped right w.solid e c.makes) ∙ right_trimmed right w.solid e c.makes in
      record { ending = e; holds = c.holds; makes = ap right is ∙ c.makes }

  pub word_follows : Follows (λ rest. reader (argument rest)) (behind_blanks (in_word reader taken))
  unfolding argument behind_blanks in_word skip is_blank
  word_follows =
      record {
        some = record { ending = some_word.ending; holds = some_word.holds; makes = some_word.makes };
        first = λ rest _. skip_bad some_word rest _ (word_bad (skip rest) right w.solid (taken (word_of (skip rest))) (w.first (word_of (skip rest))));
      }
