-- Bytes that were written in hex are one run of digits, and it is cut into these bytes again. Assumes nothing.
use Prim.Native.Nat.{ℕ, ◌+◌, ◌*◌, ◌/◌, ◌%◌, ◌<◌}
use mathlib.Core.Path.{◌≡◌, refl, ap, ◌∙◌}
use mathlib.Core.Bool.{true}
use mathlib.Core.List.{List, [], ◌∷◌, ◌++◌, append-nil}
use native.Mathlib.Nat.{div-add-mod'}
use native.Mathlib.Omega.{arith}
use Rattle.reader.specs.Bytes.{all, digit_of}
use Rattle.reader.proofs.Tests.{Every}
use Rattle.hex_data.specs.Hex.{good, hex_at}
use Rattle.hex_data.proofs.Runs.{Digits, cut, run_data}
use Rattle.writer.specs.Hex.{capital, hex_text}
use Rattle.writer.proofs.Hexes.{capital_digit}
use Rattle.language.specs.Right.{is_byte}
use Rattle.language.proofs.Bytes.{bytes_are}

pub is_digit : (d : ℕ) → d < 16 → digit_of (capital d) < 16
is_digit d h = rw (capital_digit d h) h

pub hex_digits : (bs : List ℕ) → Every (λ b. b < 256) bs → Digits (hex_text bs)
unfolding hex_text
hex_digits [] h = tt
hex_digits (b ∷ bs) h =
    let byte : b < 256 = h.0 in
    (is_digit (b / 16) (omega arith), (is_digit (b % 16) (omega arith), hex_digits bs h.1))

pub cut_hex : (bs more : List ℕ) → Every (λ b. b < 256) bs → cut (hex_text bs ++ more) ≡ bs ++ cut more
unfolding cut hex_text
cut_hex [] more h = refl
cut_hex (b ∷ bs) more h =
    let byte : b < 256 = h.0 in
    let e : b / 16 * 16 + b % 16 ≡ b = div-add-mod' b 16 in
    rw (capital_digit (b / 16) (omega arith), capital_digit (b % 16) (omega arith), e, cut_hex bs more h.1)

pub hex_said : (bs : List ℕ) → all is_byte bs ≡ true → hex_at (hex_text bs) 0 ≡ good bs
unfolding cut
hex_said bs h =
    let small : Every (λ b. b < 256) bs = bytes_are bs h in
    run_data (hex_text bs) (hex_digits bs small) ∙ ap good (rw (append-nil (hex_text bs), append-nil bs) at (cut_hex bs [] small))
