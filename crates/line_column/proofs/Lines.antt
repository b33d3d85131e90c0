-- A line: nothing, hex data, or a name and what follows it. Assumes nothing.
use Prim.Native.Nat.{ℕ, ◌+◌}
use mathlib.Core.Path.{◌≡◌, refl, sym, ◌∙◌}
use mathlib.Core.List.{List, [], ◌∷◌}
use native.Mathlib.Omega.{arith}
use lib.ListN.{length, drop, get_or}
use borrow.Author.Tests.{eq-eqb, ne_eqb}
use Rattle.words.specs.Words.{word_end}
use Rattle.language.specs.Column.{hex_taken, names_behind, named_taken, line_taken}
use Rattle.line_column.specs.Inside.Behind.{taken_to}
use Rattle.line_column.proofs.Naming.{named_to}

pub no_line : (s : List ℕ) → length s ≡ 0 → 0 ≡ line_taken s
unfolding line_taken
no_line [] h = refl
no_line (b ∷ l) h = absurd (omega arith)

pub hex_line : (s : List ℕ) → (length s ≡ 0 → ⊥) → get_or s 0 0 ≡ 58 → 1 + hex_taken (drop 1 s) ≡ line_taken s
unfolding line_taken
hex_line [] h e = absurd (h refl)
hex_line (b ∷ l) h e = rw (eq-eqb b 58 e) (omega arith)

named : (s : List ℕ) → (length s ≡ 0 → ⊥) → (get_or s 0 0 ≡ 58 → ⊥) → line_taken s ≡ named_taken names_behind s
unfolding line_taken
named [] h n = absurd (h refl)
named (b ∷ l) h n = rw (ne_eqb b 58 n)

pub named_line : (s : List ℕ) {to : ℕ} → (length s ≡ 0 → ⊥) → (get_or s 0 0 ≡ 58 → ⊥) → to ≡ word_end s 0
    → taken_to names_behind s 0 to ≡ line_taken s
named_line s h n told =
    let z : 0 + named_taken names_behind s ≡ named_taken names_behind s = omega arith in
    named_to names_behind s 0 told ∙ z ∙ sym (named s h n)
