-- Hex data that are written: how long they are, that each digit has its value, and that no byte of them is blank. Assumes nothing.
use Prim.Native.Nat.{ℕ, ◌+◌, ◌-◌, ◌*◌, ◌/◌, ◌%◌, ◌≤◌, ◌<◌}
use mathlib.Core.Path.{◌≡◌, refl, sym, ◌∙◌}
use mathlib.Core.List.{List, [], ◌∷◌}
use native.Mathlib.Omega.{arith}
use lib.Dec.{ltb}
use lib.ListN.{length}
use borrow.Author.Tests.{ltb-true, ltb-false}
use Rattle.reader.specs.Bytes.{digit_of}
use Rattle.reader.proofs.Digits.{digit_capital, digit_is}
use Rattle.writer.specs.Hex.{capital, hex_text}
use Rattle.reader.proofs.Tests.{Every, by_cases}
use Rattle.reader.proofs.Solid.{Shown, Solid}

pub hex_length : (bs : List ℕ) → length (hex_text bs) ≡ length bs * 2
unfolding hex_text
hex_length [] = refl
hex_length (b ∷ bs) = omega (arith, hex_length bs)

pub capital_digit : (d : ℕ) → d < 16 → digit_of (capital d) ≡ d
unfolding capital
capital_digit d h =
    by_cases (λ (b : ℕ). digit_of b ≡ d) (ltb d 10) (48 + d) (55 + d) (λ e. digit_is d (ltb-true d 10 e)) (λ e. letter (ltb-false d 10 e))
  where
    letter : 10 ≤ d → digit_of (55 + d) ≡ d
    letter l =
        let e : 55 + d - 55 ≡ d = omega arith in
        sym (digit_capital (55 + d) (omega arith) (omega arith)) ∙ e

pub capital_solid : (d : ℕ) → d < 16 → Shown (capital d)
unfolding capital
capital_solid d h =
    by_cases Shown (ltb d 10) (48 + d) (55 + d)
    (λ e. record { low = omega arith; high = omega arith })
    (λ e. record { low = omega arith; high = omega arith })

pub hex_solid : (bs : List ℕ) → Every (λ b. b < 256) bs → Solid (hex_text bs)
unfolding hex_text
hex_solid [] h = tt
hex_solid (b ∷ bs) h =
    let byte : b < 256 = h.0 in
    (capital_solid (b / 16) (omega arith), (capital_solid (b % 16) (omega arith), hex_solid bs h.1))
