-- What the tests of bytes say. Assumes nothing.
use Prim.Native.Nat.{ℕ, suc, ◌≤◌, ◌<◌}
use mathlib.Core.Path.{◌≡◌, refl, sym}
use mathlib.Core.Bool.{Bool, true, false, not}
use mathlib.Core.List.{List, [], ◌∷◌}
use native.Mathlib.Omega.{arith}
use lib.Dec.{leb, eqb}
use lib.ListN.{get_or}
use borrow.Author.Tests.{ltb-true, lt-ltb, leb-true, ne_eqb}
use Rattle.reader.specs.Bytes.{all}
use Rattle.reader.proofs.Tests.{both, both_left, both_right, Every, every_of}
use Rattle.reader.proofs.Solid.{Solid}
use Rattle.language.specs.Listing.{is_plain}
use Rattle.language.specs.Right.{is_byte, in_line}

pub not-true : (a : Bool) → not a ≡ true → a ≡ false
not-true true e = sym e
not-true false e = refl

-- a test that another one implies, at every byte
pub all_so : (p q : ℕ → Bool) → ((b : ℕ) → p b ≡ true → q b ≡ true) → (l : List ℕ) → all p l ≡ true → all q l ≡ true
all_so p q f [] h = refl
all_so p q f (b ∷ l) h = both (q b) (all q l) (f b (both_left (p b) (all p l) h)) (all_so p q f l (both_right (p b) (all p l) h))

pub byte_is_lem : (b : ℕ) → is_byte b ≡ true → b < 256
unfolding is_byte
byte_is_lem b h = ltb-true b 256 h

pub bytes_are : (l : List ℕ) → all is_byte l ≡ true → Every (λ b. b < 256) l
bytes_are l h = every_of (λ b. b < 256) is_byte byte_is_lem l h

-- as a slice of bytes tells it, of every place
pub are_bytes : (l : List ℕ) → ((i : ℕ) → get_or l i 0 < 256) → all is_byte l ≡ true
unfolding is_byte
are_bytes [] h = refl
are_bytes (b ∷ l) h = both (is_byte b) (all is_byte l) (lt-ltb b 256 (h 0)) (are_bytes l (λ i. h (suc i)))

-- ---- what a line can hold

in_line_lem : (b : ℕ) → 10 < b → b < 256 → in_line b ≡ true
unfolding in_line is_byte
in_line_lem b h k = let n : b ≡ 10 → ⊥ = omega arith in rw (lt-ltb b 256 k, ne_eqb b 10 n)

pub no_lf_lem : (b : ℕ) → in_line b ≡ true → eqb b 10 ≡ false
unfolding in_line
no_lf_lem b h = not-true (eqb b 10) (both_right (is_byte b) (not (eqb b 10)) h)

pub line_bytes : (l : List ℕ) → all in_line l ≡ true → all is_byte l ≡ true
unfolding in_line
line_bytes l h = all_so in_line is_byte (λ b e. both_left (is_byte b) (not (eqb b 10)) e) l h

pub plain_line : (l : List ℕ) → all is_plain l ≡ true → all in_line l ≡ true
unfolding is_plain
plain_line l h =
    all_so is_plain in_line
    (λ b e.
    let p : 32 ≤ b = leb-true 32 b (both_left (leb 32 b) (leb b 126) e) in
    let q : b ≤ 126 = leb-true b 126 (both_right (leb 32 b) (leb b 126) e) in
    in_line_lem b (omega arith) (omega arith)) l h

pub solid_line : (l : List ℕ) → Solid l → all in_line l ≡ true
solid_line [] h = refl
solid_line (b ∷ l) h = both (in_line b) (all in_line l) (in_line_lem b (omega (arith, h.0)) (omega (arith, h.0))) (solid_line l h.1)
