-- The text of a sign as the code chooses it, and what a byte of a LOG text adds to its record. Assumes nothing.
use Prim.Native.Nat.{ℕ, ◌+◌, ◌^◌, ◌≤◌, ◌<◌}
use mathlib.Core.Path.{◌≡◌, refl, sym, ap, ◌∙◌}
use mathlib.Core.Bool.{Bool, true, false, cond}
use mathlib.Core.List.{List, [], ◌∷◌, ◌++◌}
use native.Mathlib.Numerals.{add-one}
use native.Mathlib.Omega.{arith}
use lib.Dec.{eqb}
use lib.ListN.{length, drop, get_or}
use lib.Seq.{drop-cons}
use borrow.Author.Tests.{eq-eqb, ne_eqb}
use Rattle.writer.specs.Put.{decimal, two_digits}
use Rattle.writer.proofs.Decimals.{decimal_few}
use Rattle.process.specs.declared.Reading.{Reading}
use Rattle.std.specs.Prelude.{Option, Some, None}
use Rattle.record.specs.Logging.{sign_text, written_out}
use Rattle.record.specs.Inside.Signs.{date_of, plain_sign, date_text, piece, begins_sign}

-- ---- the text of a sign

shown_case : (x n : ℕ) (t : Bool) (s : Option ℕ) {l : List ℕ} → l ≡ date_text x s → cond t (two_digits n) l ≡ date_text x (cond t (Some n) s)
unfolding date_text
shown_case x n true s e = refl
shown_case x n false s e = e

plain_case : (b : ℕ) (t u : Bool) → cond t (13 ∷ []) (cond u (10 ∷ []) (b ∷ [])) ≡ date_text (cond t 13 (cond u 10 b)) None
unfolding date_text
plain_case b true u = refl
plain_case b false true = refl
plain_case b false false = refl

few_case : (t : Bool) (x y : List ℕ) → length x ≤ 10 → length y ≤ 10 → length (cond t x y) ≤ 10
few_case true x y h k = h
few_case false x y h k = k

module _ (r : Reading) (count b : ℕ) where
  pub sign_count : b ≡ 99 → decimal count ≡ sign_text r count b
  unfolding sign_text
  sign_count e = rw (eq-eqb b 99 e)

  sign_shown : (b ≡ 99 → ⊥) → sign_text r count b ≡ date_text (plain_sign b) (date_of r b)
  unfolding sign_text date_of plain_sign
  sign_shown h =
      let x : ℕ = cond (eqb b 114) 13 (cond (eqb b 110) 10 b) in
      rw (ne_eqb b 99 h)
      (shown_case x r.year (eqb b 89) _
      (shown_case x r.month (eqb b 77) _
      (shown_case x r.day (eqb b 68) _
      (shown_case x r.hour (eqb b 104) _
      (shown_case x r.minute (eqb b 109) _ (shown_case x r.second (eqb b 115) _ (plain_case b (eqb b 114) (eqb b 110))))))))

  pub sign_unit : (b ≡ 99 → ⊥) → {s : Option ℕ} {n : ℕ} → s ≡ date_of r b → s ≡ Some n → two_digits n ≡ sign_text r count b
  unfolding date_text
  sign_unit h e f = sym (sign_shown h ∙ ap (date_text (plain_sign b)) (sym e ∙ f))

  pub sign_plain : (b ≡ 99 → ⊥) → {s : Option ℕ} {x : ℕ} → s ≡ date_of r b → s ≡ None → x ≡ plain_sign b → x ∷ [] ≡ sign_text r count b
  unfolding date_text
  sign_plain h {x = x} e f g = ap (λ (y : ℕ). y ∷ []) g ∙ sym (sign_shown h ∙ ap (date_text (plain_sign b)) (sym e ∙ f))

  -- the longest is a count of ten digits
  pub sign_few : count < 10 ^ 10 → length (sign_text r count b) ≤ 10
  unfolding sign_text two_digits
  sign_few h =
      let one : 1 ≤ 10 = omega arith in
      let two : 2 ≤ 10 = omega arith in
      few_case (eqb b 99) _ _ (decimal_few 10 count (omega arith) h)
      (few_case (eqb b 89) _ _ two
      (few_case (eqb b 77) _ _ two
      (few_case (eqb b 68) _ _ two
      (few_case (eqb b 104) _ _ two
      (few_case (eqb b 109) _ _ two (few_case (eqb b 115) _ _ two (few_case (eqb b 114) _ _ one (few_case (eqb b 110) _ _ one one))))))))

-- ---- what a byte adds

module _ (r : Reading) (count b : ℕ) {signed : Bool} where
  pub piece_sign : signed ≡ true → sign_text r count b ≡ piece r count signed b
  unfolding piece
  piece_sign e = rw e

  pub piece_none : signed ≡ false → b ≡ 64 → [] ≡ piece r count signed b
  unfolding piece
  piece_none e h = rw (e, eq-eqb b 64 h)

  pub piece_one : signed ≡ false → (b ≡ 64 → ⊥) → b ∷ [] ≡ piece r count signed b
  unfolding piece
  piece_one e h = rw (e, ne_eqb b 64 h)

-- no piece is longer than a sign
pub piece_few : (r : Reading) (count b : ℕ) (signed : Bool) → count < 10 ^ 10 → length (piece r count signed b) ≤ 10
unfolding piece
piece_few r count b true h = sign_few r count b h
piece_few r count b false h = few_case (eqb b 64) [] (b ∷ []) (omega arith) (omega arith)

piece_case : (r : Reading) (count b : ℕ) (l : List ℕ) (t : Bool)
    → cond t (written_out r count l true) (b ∷ written_out r count l false) ≡ cond t [] (b ∷ []) ++ written_out r count l t
piece_case r count b l true = refl
piece_case r count b l false = refl

-- the text with its signs written out is the pieces one after the other
pub next_piece : (r : Reading) (count b : ℕ) (l : List ℕ) (signed : Bool)
    → written_out r count (b ∷ l) signed ≡ piece r count signed b ++ written_out r count l (begins_sign signed b)
unfolding written_out piece begins_sign
next_piece r count b l true = refl
next_piece r count b l false = piece_case r count b l (eqb b 64)

-- the same at a place of the text, `next` being the flag after it
pub piece_at : (r : Reading) (count : ℕ) (text : List ℕ) (i : ℕ) (signed : Bool) {next : Bool} → i < length text → next ≡ begins_sign signed (get_or text i 0)
    → written_out r count (drop i text) signed ≡ piece r count signed (get_or text i 0) ++ written_out r count (drop (i + 1) text) next
piece_at r count text i signed h e =
    rw e
    (ap (λ (l : List ℕ). written_out r count l signed) (drop-cons text i 0 h ∙ ap (λ (k : ℕ). get_or text i 0 ∷ drop k text) (sym (add-one i)))
    ∙ next_piece r count (get_or text i 0) (drop (i + 1) text) signed)
