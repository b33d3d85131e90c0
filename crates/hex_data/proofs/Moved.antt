-- A reading of hex data from another place gives the same answer, its place moved by the difference. Assumes nothing.
use Prim.Native.Nat.{ℕ, ◌+◌, ◌*◌}
use mathlib.Core.Path.{◌≡◌, refl, ap, ◌∙◌}
use mathlib.Core.List.{List, [], ◌∷◌}
use lib.Dec.{ltb}
use lib.ListN.{drop}
use Rattle.reader.specs.Bytes.{digit_of}
use Rattle.numbers.specs.Inside.Moved.{moved_on}
use Rattle.numbers.specs.Number.{value_at}
use Rattle.numbers.proofs.Moved.{both_moved, next, from_zero_lem}
use Rattle.hex_data.specs.Hex.{Said, good, bad, step_of, byte_before, after_step, hex_go, hex_at, hex_second, hex_byte_of, hex_byte_at}
use Rattle.hex_data.specs.Inside.Said.{moved_said}
use Rattle.hex_data.specs.Hex.{HexStep}
use Rattle.hex_data.specs.Hex.{Refuse, Skip, First, Whole}

hex_second_moved : (h : ℕ) (l : List ℕ) (k at : ℕ) → hex_second h l (k + at) ≡ moved_on k (hex_second h l at)
unfolding hex_second moved_on
hex_second_moved h [] k at = refl
hex_second_moved h (b ∷ rest) k at = both_moved (moved_on k) (ltb (digit_of b) 16) (ap (value_at (h * 16 + digit_of b)) (next k at)) refl

pub hex_byte_moved : (l : List ℕ) (k at : ℕ) → hex_byte_of l (k + at) ≡ moved_on k (hex_byte_of l at)
unfolding hex_byte_of moved_on
hex_byte_moved [] k at = refl
hex_byte_moved (a ∷ rest) k at =
    both_moved (moved_on k) (ltb (digit_of a) 16) (ap (hex_second (digit_of a) rest) (next k at) ∙ hex_second_moved (digit_of a) rest k (at + 1)) refl

-- ---- hex data

before_moved : (k b : ℕ) (x : Said) → byte_before b (moved_said k x) ≡ moved_said k (byte_before b x)
unfolding byte_before moved_said
before_moved k b (good bs) = refl
before_moved k b (bad at) = refl

after_moved : (k at : ℕ) (st : HexStep) {f : ℕ → Said} (g : ℕ → Said) → ((h : ℕ) → f h ≡ moved_said k (g h))
    → after_step (k + at) st (f 16) f ≡ moved_said k (after_step at st (g 16) g)
unfolding moved_said
after_moved k at Refuse g q = refl
after_moved k at Skip g q = q 16
after_moved k at (First h) g q = q h
after_moved k at (Whole b) g q = ap (byte_before b) (q 16) ∙ before_moved k b (g 16)

pub hex_moved : (l : List ℕ) (half k at : ℕ) → hex_go l half (k + at) ≡ moved_said k (hex_go l half at)
unfolding hex_go moved_said
hex_moved [] half k at = refl
hex_moved (b ∷ rest) half k at =
    after_moved k at (step_of half b) (λ h. hex_go rest h (at + 1)) (λ h. ap (hex_go rest h) (next k at) ∙ hex_moved rest h k (at + 1))

-- ---- at a place of some bytes: what the bytes from there on say, moved to that place

pub hex_byte_at_moved : (s : List ℕ) (at : ℕ) → hex_byte_at s at ≡ moved_on at (hex_byte_at (drop at s) 0)
unfolding hex_byte_at
hex_byte_at_moved s at = from_zero_lem (hex_byte_of (drop at s)) moved_on (hex_byte_moved (drop at s)) at

pub hex_at_moved : (s : List ℕ) (at : ℕ) → hex_at s at ≡ moved_said at (hex_at (drop at s) 0)
unfolding hex_at
hex_at_moved s at = from_zero_lem _ moved_said (hex_moved (drop at s) _) at
