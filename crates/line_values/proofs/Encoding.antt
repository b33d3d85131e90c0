-- ENCODE's byte: what each way on has found of the argument. Assumes nothing.
use Rattle.std.specs.Prelude.{Ok, Err}
use Prim.Native.Nat.{ℕ, ◌<◌}
use mathlib.Core.Path.{◌≡◌, refl, sym, ap, ◌∙◌}
use mathlib.Core.Bool.{cond}
use mathlib.Core.List.{List, [], ◌∷◌}
use native.Mathlib.Omega.{arith}
use lib.Dec.{eqb}
use lib.ListN.{length, get_or, drop, drop_of_length-le}
use lib.Seq.{drop-cons}
use borrow.Author.Tests.{eq-eqb, ne_eqb}
use Rattle.numbers.specs.Inside.Moved.{moved_on}
use Rattle.hex_data.specs.Hex.{hex_byte_at}
use Rattle.numbers.specs.Number.{NumberRead}
use Rattle.numbers.specs.declared.Number.{Number}
use Rattle.hex_data.proofs.Moved.{hex_byte_at_moved}
use Rattle.language.specs.Script.{set_encode, fault}
use Rattle.language.specs.declared.TextFault.TheVariants.{BadRest}
use Rattle.language.specs.Meaning.{encode_of, encode_hex, encode_byte}
use Rattle.language.proofs.Reading.{Reads, hex_byte_reads}

pub no_byte : (a : List ℕ) → length a ≡ 0 → encode_of a ≡ fault BadRest
unfolding encode_of
no_byte [] h = refl
no_byte (b ∷ l) h = absurd (omega arith)

-- the place after the byte does not matter
hex_moved : (k : ℕ) (n : NumberRead) → encode_hex (moved_on k n) ≡ encode_hex n
unfolding encode_hex moved_on
hex_moved k (Ok n) = refl
hex_moved k (Err at) = refl

reads_moved : (P : ℕ → Type 0) (k : ℕ) (n : NumberRead) → Reads P n → Reads P (moved_on k n)
unfolding moved_on
reads_moved P k (Ok n) h = h
reads_moved P k (Err at) h = tt

some_byte : (a : List ℕ) → (length a ≡ 0 → ⊥)
    → encode_of a
    ≡ cond (eqb (get_or a 0 0) 58) (encode_hex (hex_byte_at a 1)) (cond (eqb (get_or a 0 0) 47) (encode_byte (drop 1 a)) (set_encode (get_or a 0 0)))
unfolding encode_of
some_byte [] h = absurd (h refl)
some_byte (b ∷ l) h = rw (hex_byte_at_moved (b ∷ l) 1, hex_moved 1 (hex_byte_at l 0))

module _ (a : List ℕ) (some : length a ≡ 0 → ⊥) where
  pub hex_byte_lem : get_or a 0 0 ≡ 58 → encode_of a ≡ encode_hex (hex_byte_at a 1)
  hex_byte_lem e = some_byte a some ∙ rw (eq-eqb (get_or a 0 0) 58 e)

  module _ (n : get_or a 0 0 ≡ 58 → ⊥) where
    slash : get_or a 0 0 ≡ 47 → encode_of a ≡ encode_byte (drop 1 a)
    slash e = some_byte a some ∙ rw (ne_eqb (get_or a 0 0) 58 n, eq-eqb (get_or a 0 0) 47 e)

    pub no_second : get_or a 0 0 ≡ 47 → length a ≡ 1 → encode_of a ≡ fault BadRest
    unfolding encode_byte
    no_second e h = slash e ∙ ap encode_byte (drop_of_length-le a {i = 1} (omega arith))

    pub second : get_or a 0 0 ≡ 47 → (length a ≡ 1 → ⊥) → encode_of a ≡ set_encode (get_or a 1 0)
    unfolding encode_byte
    second e h = slash e ∙ ap encode_byte (drop-cons a 1 0 (omega arith))

    pub itself : (get_or a 0 0 ≡ 47 → ⊥) → encode_of a ≡ set_encode (get_or a 0 0)
    itself m = some_byte a some ∙ rw (ne_eqb (get_or a 0 0) 58 n, ne_eqb (get_or a 0 0) 47 m)

pub byte_fits : (a : List ℕ) {n : Number} → Ok n ≡ hex_byte_at a 1 → n.value < 256
byte_fits a e = rw (sym (e ∙ hex_byte_at_moved a 1)) at (reads_moved (λ v. v < 256) 1 (hex_byte_at (drop 1 a) 0) (hex_byte_reads (drop 1 a)))
