-- THE COLUMN OF 4 IS THAT OF THE FIRST BYTE AFTER WHICH NO ENDING, HOWEVER LONG, MAKES THE LINE RIGHT. Assumes nothing.
use Prim.Native.Nat.{ℕ, zero, suc, ◌+◌}
use mathlib.Core.Path.{◌≡◌, refl, sym, ap, subst, ◌∙◌}
use mathlib.Core.Bool.{Bool, true, false, cond, ◌&&◌}
use mathlib.Core.List.{List, [], ◌∷◌, ◌++◌}
use native.Mathlib.Omega.{arith}
use lib.Dec.{eqb}
use lib.Seq.{append_snoc}
use Rattle.reader.specs.Ascii.{ascii}
use Rattle.reader.specs.Bytes.{all, same, is_blank, is_byte, in_line}
use Rattle.reader.specs.FirstBad.{CanEnd, FirstBad}
use Rattle.reader.proofs.Tests.{true_is_false}
use Rattle.reader.proofs.Same.{same_is}
use Rattle.reader.proofs.FirstBad.{bad_end, bad_next, bad_as, bad_from, end_before, one_first_bad}
use Rattle.words.specs.Words.{skip, blanks, word_of, word_length, after_word, argument}
use Rattle.hex_data.specs.Hex.{Said, good, bad, is_good, hex_at}
use Rattle.language.specs.declared.TextFault.TheVariants.{BadRest}
use Rattle.language.specs.Clock.{clock_of}
use Rattle.language.specs.Script.{Meaning, says, end, fchange, pause, resume, nop, process, wait_signal, send, comment, blank, fault}
use Rattle.language.specs.Meaning.{Entry, lookup, bare, send_says, clock_says, signal, waits, wait_of, names, named, meaning, stopbits_of}
use Rattle.language.specs.Column.{faultless, right_line, Behind, behind_blanks, taken_by, named_taken, waits_behind, names_behind, clock_taken, line_taken, column_of, ColumnTold}
use Rattle.language.proofs.WordPlace.{OneWord, loop_word, byte_word, rts_word, ex_word}
use Rattle.language.proofs.LetterPlace.{lfext_word}
use Rattle.language.proofs.TimePlace.{time_word}
use Rattle.language.proofs.ClockPlace.{clock_first_bad, clock_one_word}
use Rattle.language.proofs.RestPlace.{Follows, bare_follows, skip_bad, word_follows}
use Rattle.language.proofs.DataPlace.{send_bad, data_follows, omit_follows, log_follows, encode_follows}

-- ---- names

-- each name of a table, and what can be taken behind it
data AllFollow (ns : List Behind) : List Entry → Type 0 where
  none : AllFollow ns []
  also : {e : Entry} {es : List Entry} → Follows e.reader (taken_by ns e.word) → AllFollow ns es → AllFollow ns (e ∷ es)

-- a word that is one of the names
record Known (es : List Entry) (ns : List Behind) (w : List ℕ) : Type 0 where
  reader : List ℕ → Meaning
  follows : Follows reader (taken_by ns w)
  is : (r : List ℕ) → lookup es w r ≡ reader r

known : (ns : List Behind) (es : List Entry) → AllFollow ns es → (w rest : List ℕ) → lookup es w rest ≡ fault BadRest → Known es ns w
unfolding lookup
known ns [] none w rest h = let z : ◌≡◌ {A = ℕ} 0 1 = cc in absurd (omega arith)
known ns (e ∷ es) (also f a) w rest h = go (known ns es a w rest) (same e.word w) refl h
  where
    go : (lookup es w rest ≡ fault BadRest → Known es ns w) → (t : Bool) → same e.word w ≡ t → cond t (e.reader rest) (lookup es w rest) ≡ fault BadRest → Known (e ∷ es) ns w
    go g true q k = record { reader = e.reader; follows = subst (λ (v : List ℕ). Follows e.reader (taken_by ns v)) (same_is e.word w q) f; is = λ r. rw q }
    go g false q k = let r = g k in record { reader = r.reader; follows = r.follows; is = λ s. rw q (r.is s) }

module _ (ns : List Behind) (es : List Entry) (all-follow : AllFollow ns es) where
  -- the bytes behind `x`, which is read of the name already
  right : List ℕ → List ℕ → Bool
  right x a = faultless (lookup es (x ++ word_of a) (after_word a))

  taken : List ℕ → List ℕ → ℕ
  taken x l = word_length l + taken_by ns (x ++ word_of l) (after_word l)

  -- the name is whole
  module _ (x : List ℕ) (k : Known es ns (x ++ [])) where
    name_ends : CanEnd (right x) []
    unfolding right word_of after_word is_blank in_line is_byte
    name_ends =
        let c = k.follows.some in
        record { ending = 32 ∷ c.ending; holds = c.holds; makes = ap faultless (k.is (32 ∷ c.ending)) ∙ c.makes }

    behind_name : (b : ℕ) (l : List ℕ) → is_blank b ≡ true → lookup es (x ++ []) (b ∷ l) ≡ fault BadRest → FirstBad (right x) (b ∷ l) (taken_by ns (x ++ []) (b ∷ l))
    unfolding right word_of after_word
    behind_name b l e h =
        bad_from b l (taken_by ns (x ++ []) (b ∷ l)) name_ends (λ a. rw e (ap faultless (sym (k.is (b ∷ a))))) (k.follows.first (b ∷ l) (sym (k.is (b ∷ l)) ∙ h))

    at_end_lem : lookup es (x ++ []) [] ≡ fault BadRest → FirstBad (right x) [] (0 + taken_by ns (x ++ []) [])
    at_end_lem h =
        let z : 0 + taken_by ns (x ++ []) [] ≡ 0 = omega (arith, (k.follows.first [] (sym (k.is []) ∙ h)).inside) in
        rw z (bad_end name_ends)

  name_bad : (l x : List ℕ) → lookup es (x ++ word_of l) (after_word l) ≡ fault BadRest → FirstBad (right x) l (taken x l)
  unfolding word_of word_length after_word taken
  name_bad [] x h = at_end_lem x (known ns es all-follow (x ++ []) [] h) h
  name_bad (b ∷ l) x h = by_byte (λ g. name_bad l (x ++ b ∷ []) g) (is_blank b) refl h
    where
      one_more : (a : List ℕ) → is_blank b ≡ false → right (x ++ b ∷ []) a ≡ right x (b ∷ a)
      one_more a e = unfold right in rw (e, append_snoc x b (word_of a))

      by_byte : (lookup es ((x ++ b ∷ []) ++ word_of l) (after_word l) ≡ fault BadRest → FirstBad (right (x ++ b ∷ [])) l (taken (x ++ b ∷ []) l)) → (t : Bool)
          → is_blank b ≡ t → lookup es (x ++ cond t [] (b ∷ word_of l)) (cond t (b ∷ l) (after_word l)) ≡ fault BadRest
          → FirstBad (right x) (b ∷ l) (cond t 0 (suc (word_length l)) + taken_by ns (x ++ cond t [] (b ∷ word_of l)) (cond t (b ∷ l) (after_word l)))
      by_byte g true e k =
          let z : 0 + taken_by ns (x ++ []) (b ∷ l) ≡ taken_by ns (x ++ []) (b ∷ l) = omega arith in
          rw z (behind_name x (known ns es all-follow (x ++ []) (b ∷ l) k) b l e k)
      by_byte g false e k =
          let n = taken_by ns (x ++ b ∷ word_of l) (after_word l) in
          let z : suc (word_length l) + n ≡ suc (word_length l + n) = omega arith in
          rw z (bad_next b l (bad_as (λ a. one_more a e) (rw (append_snoc x b (word_of l)) at (g (rw append_snoc k)))))

-- ---- the names and the second words

-- "any other rest, or none, is one": it is never wrong
stopbits_follows : Follows (λ rest. stopbits_of (argument rest)) blanks
unfolding stopbits_of faultless
stopbits_follows =
    record {
      some = record { ending = []; holds = refl; makes = refl };
      first = λ rest h. let z : ◌≡◌ {A = ℕ} 0 1 = cc in absurd (omega arith);
    }

clock_right_lem : (x : Said) → is_good x ≡ faultless (clock_says x)
unfolding clock_says faultless
clock_right_lem (good vs) = refl
clock_right_lem (bad at) = refl

clock_word : OneWord (λ a. clock_says (clock_of a)) clock_taken
clock_word =
    record {
      first = λ w. bad_as (λ a. clock_right_lem (clock_of a)) (clock_first_bad w);
      solid = λ x y b h. sym (clock_right_lem (clock_of (x ++ b ∷ y))) ∙ clock_one_word x y b h;
    }

waits_follow : AllFollow waits_behind waits
unfolding waits waits_behind taken_by same signal faultless
waits_follow =
    also (word_follows time_word)
    (also data_follows
    (also (word_follows byte_word)
    (also (word_follows clock_word)
    (also (bare_follows (says (wait_signal 0 true)) refl)
    (also (bare_follows (says (wait_signal 0 false)) refl)
    (also (bare_follows (says (wait_signal 1 true)) refl)
    (also (bare_follows (says (wait_signal 1 false)) refl)
    (also (bare_follows (says (wait_signal 2 true)) refl)
    (also (bare_follows (says (wait_signal 2 false)) refl)
    (also (bare_follows (says (wait_signal 3 true)) refl)
    (also (bare_follows (says (wait_signal 3 false)) refl)
    (also (bare_follows (says (wait_signal 4 true)) refl)
    (also (bare_follows (says (wait_signal 4 false)) refl) none)))))))))))))

wait_follows : Follows (λ rest. wait_of (skip rest)) (behind_blanks (named_taken waits_behind))
unfolding wait_of behind_blanks named_taken right taken skip is_blank
wait_follows =
    record {
      some = record { ending = some.ending; holds = some.holds; makes = some.makes };
      first = λ rest h. skip_bad some rest (named_taken waits_behind (skip rest)) (name_bad waits_behind waits waits_follow (skip rest) [] h);
    }
  where
    some : CanEnd (λ a. faultless (wait_of (skip (32 ∷ a)))) []
    some = unfold wait_of skip is_blank word_of after_word lookup waits same signal bare faultless in_line is_byte in record { ending = ascii "CTSON"; holds = refl; makes = refl }

names_follow : AllFollow names_behind names
unfolding names names_behind taken_by same faultless
names_follow =
    also (word_follows loop_word)
    (also (bare_follows (says end) refl)
    (also wait_follows
    (also (word_follows rts_word)
    (also log_follows
    (also (bare_follows (says fchange) refl)
    (also (bare_follows (says pause) refl)
    (also (bare_follows (says resume) refl)
    (also (bare_follows (says nop) refl)
    (also (bare_follows process refl)
    (also encode_follows
    (also stopbits_follows
    (also (word_follows ex_word)
    (also (word_follows ex_word)
    (also (word_follows ex_word)
    (also (word_follows ex_word)
    (also omit_follows
    (also (word_follows lfext_word) none)))))))))))))))))

-- ---- the line

line_ends : CanEnd right_line []
unfolding right_line meaning faultless
line_ends = record { ending = []; holds = refl; makes = refl }

-- a line of hex data
hex_line : (b : ℕ) → eqb b 59 ≡ false → eqb b 47 ≡ false → eqb b 58 ≡ true → (a : List ℕ) → faultless (send_says (hex_at a 0)) ≡ right_line (b ∷ a)
unfolding right_line meaning
hex_line b c d e a = rw (c, d, e)

-- a line that begins with none of the marks
module _ (b : ℕ) (l : List ℕ) (c : eqb b 59 ≡ false) (d : eqb b 47 ≡ false) (e : eqb b 58 ≡ false) where
  named_line : is_blank b ≡ false → (a : List ℕ) → faultless (named (b ∷ a)) ≡ right_line (b ∷ a)
  unfolding right_line meaning
  named_line h a = rw (c, d, e, h)

  -- a name stands at the front
  not_blank : (t : Bool) → is_blank b ≡ t → named (b ∷ l) ≡ fault BadRest → t ≡ false
  unfolding named word_of lookup names same
  not_blank true h k = let z : ◌≡◌ {A = ℕ} 0 1 = cc (rw h at k) in absurd (omega arith)
  not_blank false h k = refl

  name_line : named (b ∷ l) ≡ fault BadRest → FirstBad right_line (b ∷ l) (named_taken names_behind (b ∷ l))
  unfolding named named_taken right taken
  name_line k =
      bad_from b l (named_taken names_behind (b ∷ l)) line_ends (named_line (not_blank (is_blank b) refl k)) (name_bad names_behind names names_follow (b ∷ l) [] k)

-- what is said is no fault
not_fault : {m : Meaning} {A : Type 0} → faultless m ≡ true → m ≡ fault BadRest → A
unfolding faultless
not_fault e h = true_is_false (sym e ∙ ap faultless h)

pub line_first_bad : (l : List ℕ) → meaning l ≡ fault BadRest → FirstBad right_line l (line_taken l)
unfolding meaning line_taken faultless
line_first_bad [] h = not_fault refl h
line_first_bad (b ∷ l) h = comments (eqb b 59) refl h
  where
    Goal : Type 0
    Goal = FirstBad right_line (b ∷ l) (line_taken (b ∷ l))

    blanks_or : eqb b 59 ≡ false → eqb b 47 ≡ false → eqb b 58 ≡ false → (t : Bool) → cond t blank (named (b ∷ l)) ≡ fault BadRest → Goal
    blanks_or c d e true k = not_fault refl k
    blanks_or c d e false k = rw e (name_line b l c d e k)

    hexes : eqb b 59 ≡ false → eqb b 47 ≡ false → (t : Bool) → eqb b 58 ≡ t
        → cond t (send_says (hex_at l 0)) (cond (is_blank b && all is_blank l) blank (named (b ∷ l))) ≡ fault BadRest → Goal
    hexes c d true e k = rw e (bad_next b l (bad_as (hex_line b c d e) (send_bad l)))
    hexes c d false e k = blanks_or c d e (is_blank b && all is_blank l) k

    texts : eqb b 59 ≡ false → (t : Bool) → eqb b 47 ≡ t
        → cond t (says (send l)) (cond (eqb b 58) (send_says (hex_at l 0)) (cond (is_blank b && all is_blank l) blank (named (b ∷ l)))) ≡ fault BadRest → Goal
    texts c true d k = not_fault refl k
    texts c false d k = hexes c d (eqb b 58) refl k

    comments : (t : Bool) → eqb b 59 ≡ t → cond t comment
        (cond (eqb b 47) (says (send l)) (cond (eqb b 58) (send_says (hex_at l 0)) (cond (is_blank b && all is_blank l) blank (named (b ∷ l))))) ≡ fault BadRest → Goal
    comments true c k = not_fault refl k
    comments false c k = texts c (eqb b 47) refl k

-- No. 3: "for 4 the first byte after which no ending, however long, makes the line right, or the line's length plus one if there is none"
pub column_told : (l : List ℕ) → all in_line l ≡ true → meaning l ≡ fault BadRest → ColumnTold l (column_of l)
unfolding column_of
column_told l p h =
    let f = line_first_bad l h in
    record {
      from = omega arith;
      to = omega (arith, f.inside);
      before = λ j k. end_before j (line_taken l) l (omega arith) p f.before;
      never = λ k e. f.never (omega arith) e;
    }

-- and no other column is told so
one_place : (l : List ℕ) (p : ℕ) → ColumnTold l (suc p) → FirstBad right_line l p
one_place l p c = record { inside = omega (arith, c.to); before = c.before p (omega arith); never = λ h e. c.never (omega arith) e }

pub one_column : (l : List ℕ) (j k : ℕ) → ColumnTold l j → ColumnTold l k → j ≡ k
one_column l zero k c d = absurd (omega (arith, c.from))
one_column l (suc j) zero c d = absurd (omega (arith, d.from))
one_column l (suc j) (suc k) c d = ap suc (one_first_bad (one_place l j c) (one_place l k d))
