-- LFEXT's letters: what each way on has found of the argument. Assumes nothing.
use Prim.Native.Nat.{ℕ, zero, suc, ◌+◌, ◌-◌, ◌≤◌, ◌<◌}
use mathlib.Core.Path.{◌≡◌, refl, sym, ap, ◌∙◌}
use mathlib.Core.Bool.{Bool, true, false, cond, ◌&&◌}
use mathlib.Core.List.{List, [], ◌∷◌}
use native.Mathlib.Omega.{arith}
use lib.Dec.{ltb, leb}
use lib.ListN.{length, get_or, take}
use lib.Seq.{take_all}
use borrow.Author.Tests.{lt-leb, le-leb, lt-ltb, ltb-true, ltb-false}
use native.Mathlib.Numerals.{add-one}
use mathlib.Core.Logic.{◌⊎◌, inl, inr}
use Rattle.std.specs.Char.{to_ascii_uppercase}
use Rattle.std.specs.Prelude.{Ok, Err, slice_set}
use Rattle.reader.specs.Bytes.{all}
use Rattle.reader.proofs.Tests.{and_false}
use Rattle.language.specs.declared.TextFault.TheVariants.{BadRest}
use Rattle.language.specs.Meaning.{is_capital, raised, raise, extension, lfext_of}
use Rattle.line_values.specs.declared.Line.TheVariants.{Lfext}
use Rattle.line_values.specs.Inside.Line.{letters_from, line_from}

-- what the library makes of a byte
pub raised_is : (b : ℕ) → to_ascii_uppercase b ≡ raised b
unfolding raised
raised_is b = go (ltb b 97) (ltb b 123) refl refl
  where
    go : (t u : Bool) → ltb b 97 ≡ t → ltb b 123 ≡ u → cond t b (cond u (b - 32) b) ≡ cond (leb 97 b && leb b 122) (b - 32) b
    go true u p q = let h = ltb-true b 97 p in rw (lt-leb 97 b h)
    go false true p q = let h = ltb-false b 97 p in let k = ltb-true b 123 q in rw (le-leb 97 b h, le-leb b 122 (omega arith))
    go false false p q = let h = ltb-false b 97 p in let k = ltb-false b 123 q in rw (le-leb 97 b h, lt-leb b 122 (omega arith))

raise_length : (a : List ℕ) → length (raise a) ≡ length a
unfolding raise
raise_length [] = refl
raise_length (b ∷ l) = ap suc (raise_length l)

no_extension : (a : List ℕ) → extension (raise a) ≡ false → Err BadRest ≡ line_from (lfext_of a)
unfolding lfext_of line_from
no_extension a e = rw e

pub bad_count : (a : List ℕ) → (length a ≡ 0) ⊎ ((length a ≡ 0 → ⊥) × (3 < length a)) → Err BadRest ≡ line_from (lfext_of a)
unfolding extension raise
bad_count [] h = no_extension [] refl
bad_count (b ∷ l) (inl e) = absurd (omega arith)
bad_count (b ∷ l) (inr h) =
    let m : 3 < length (b ∷ l) = h.1 in
    no_extension (b ∷ l) (rw (raise_length (b ∷ l), lt-leb (length (b ∷ l)) 3 m) (cases (ltb 0 (length (b ∷ l))) (all is_capital (raise (b ∷ l)))))
  where
    cases : (t u : Bool) → (t && false && u) ≡ false
    cases true u = refl
    cases false u = refl

-- a byte that is neither letter nor digit: `x` is what the code has made of it
bad_letter : (a : List ℕ) (i : ℕ) → i < length a → is_capital (raised (get_or a i 0)) ≡ false → all is_capital (raise a) ≡ false
unfolding raise
bad_letter [] i h e = absurd (omega arith)
bad_letter (b ∷ l) zero h e = rw e
bad_letter (b ∷ l) (suc i) h e = rw (bad_letter l i (omega arith) e) (and_false (is_capital (raised b)))

pub refused_letter : (a : List ℕ) (i : ℕ) {x : ℕ} {t : Bool} → i < length a → x ≡ to_ascii_uppercase (get_or a i 0) → t ≡ is_capital x → t ≡ false
    → Err BadRest ≡ line_from (lfext_of a)
unfolding extension
refused_letter a i h p q e =
    no_extension a
    (rw (bad_letter a i h (ap is_capital (sym (p ∙ raised_is (get_or a i 0))) ∙ sym q ∙ e)) (cases (ltb 0 (length (raise a))) (leb (length (raise a)) 3)))
  where
    cases : (t u : Bool) → (t && u && false) ≡ false
    cases true u = and_false u
    cases false u = refl

-- ---- the state of the loop: the letters of the bytes that it has passed, made capital, zeros after them

pub record Lettered (a : List ℕ) (i : ℕ) (letters : List ℕ) : Type 0 where
  pub is : letters ≡ letters_from (raise (take i a))
  pub good : all is_capital (raise (take i a)) ≡ true

pub begun : (a : List ℕ) → Lettered a 0 (0 ∷ 0 ∷ 0 ∷ [])
unfolding letters_from raise
begun a = record { is = refl; good = refl }

second : (t u : Bool) → (t && true) ≡ true → u ≡ true → (t && (u && true)) ≡ true
second true u h e = rw e
second false u h e = h

third : (t u v : Bool) → (t && (u && true)) ≡ true → v ≡ true → (t && (u && (v && true))) ≡ true
third true u v h e = second u v h e
third false u v h e = h

one_more : (a : List ℕ) (i : ℕ) {letters : List ℕ} {x : ℕ} → length a ≤ 3 → i < length a → Lettered a i letters → raised (get_or a i 0) ≡ x
    → is_capital x ≡ true → Lettered a (suc i) (slice_set letters i x)
unfolding letters_from raise
one_more [] i h k s p e = absurd (omega arith)
one_more (b ∷ l) zero h k s p e = record { is = rw (s.is, p); good = rw (p, e) }
one_more (b ∷ []) (suc i) h k s p e = absurd (omega arith)
one_more (b ∷ c ∷ l) (suc zero) h k s p e = record { is = rw (s.is, p); good = second (is_capital (raised b)) (is_capital (raised c)) s.good (rw (p, e)) }
one_more (b ∷ c ∷ []) (suc (suc i)) h k s p e = absurd (omega arith)
one_more (b ∷ c ∷ d ∷ l) (suc (suc zero)) h k s p e =
    record { is = rw (s.is, p); good = third (is_capital (raised b)) (is_capital (raised c)) (is_capital (raised d)) s.good (rw (p, e)) }
one_more (b ∷ c ∷ d ∷ l) (suc (suc (suc i))) h k s p e = absurd (omega arith)

-- `x` is what the code has made of the byte, `t` what it has been told of that
pub letter : (a : List ℕ) (i : ℕ) {letters : List ℕ} {x : ℕ} {t : Bool} → length a ≤ 3 → i < length a → Lettered a i letters
    → x ≡ to_ascii_uppercase (get_or a i 0) → t ≡ is_capital x → t ≡ true → Lettered a (i + 1) (slice_set letters i x)
letter a i h k s p q e = rw (add-one i) (one_more a i h k s (sym (p ∙ raised_is (get_or a i 0))) (sym q ∙ e))

pub all_letters : (a : List ℕ) (i : ℕ) {letters : List ℕ} → (length a ≡ 0 → ⊥) → length a ≤ 3 → length a ≤ i → Lettered a i letters
    → Ok (Lfext letters) ≡ line_from (lfext_of a)
unfolding lfext_of extension line_from
all_letters a i n h k s =
    let w : take i a ≡ a = take_all i a k in
    let g : all is_capital (raise a) ≡ true = rw w at s.good in
    let is : letters_from (raise a) ≡ _ = sym (rw w at s.is) in
    rw (raise_length a, lt-ltb 0 (length a) (omega arith), le-leb (length a) 3 h, g) (ap (λ (ls : List ℕ). Ok (Lfext ls)) (sym is))
