-- THE FIRST BYTE THAT HEX DATA CANNOT TAKE, and that of one byte in hex. With it no ending makes hex data; what stands before it can be
-- ended. Assumes nothing.
use Rattle.std.specs.Prelude.{Ok, Err}
use Prim.Native.Nat.{ℕ, suc, ◌+◌, ◌*◌}
use mathlib.Core.Path.{◌≡◌, refl, sym, ◌∙◌}
use mathlib.Core.Bool.{Bool, true, false, cond}
use mathlib.Core.List.{List, [], ◌∷◌, ◌++◌}
use native.Mathlib.Omega.{arith}
use lib.Dec.{ltb}
use lib.ListN.{length}
use Rattle.reader.specs.Bytes.{digit_of, is_byte, in_line}
use Rattle.reader.specs.FirstBad.{CanEnd, FirstBad}
use Rattle.reader.proofs.FirstBad.{bad_end, bad_here, bad_next, bad_as, none_bad}
use Rattle.reader.proofs.Tests.{true_is_false}
use Rattle.numbers.specs.Number.{NumberRead, value_at}
use Rattle.hex_data.specs.Hex.{Said, good, bad, step_of, byte_before, after_step, hex_go, hex_at, said_place, is_good, hex_second, hex_byte_of, hex_byte_at, byte_place, is_byte_read}
use Rattle.hex_data.specs.Inside.Said.{moved_said}
use Rattle.hex_data.specs.Hex.{HexStep}
use Rattle.hex_data.specs.Hex.{Refuse, Skip, First, Whole}
use Rattle.hex_data.proofs.Moved.{hex_moved}

-- ---- hex data

-- one byte before them, and a byte of theirs
record Next (x y : Said) : Type 0 where
  good : is_good x ≡ is_good y
  place : (n : ℕ) → said_place (suc n) x ≡ suc (said_place n y)

moved_next : (y : Said) → Next (moved_said 1 y) y
unfolding moved_said said_place
moved_next (good bs) = record { good = refl; place = λ n. refl }
moved_next (bad at) = record { good = refl; place = λ n. omega arith }

before_next : (b : ℕ) (x y : Said) → Next x y → Next (byte_before b x) y
unfolding byte_before said_place
before_next b (good bs) y n = record { good = n.good; place = n.place }
before_next b (bad at) y n = n

right : ℕ → List ℕ → Bool
right half a = is_good (hex_go a half 0)

abbrev Found : ℕ → List ℕ → Type 0
Found half l = FirstBad (right half) l (said_place (length l) (hex_go l half 0))

ends : (half : ℕ) → CanEnd (right half) []
unfolding right hex_go
ends half = record { ending = []; holds = refl; makes = refl }

module _ (b half : ℕ) (rest : List ℕ) where
  next : (h : ℕ) → ((a : List ℕ) → Next (hex_go (b ∷ a) half 0) (hex_go a h 0)) → Found h rest → Found half (b ∷ rest)
  unfolding right
  next h is f = rw ((is rest).place (length rest)) (bad_next b rest (bad_as (λ a. sym (is a).good) f))

  on : (h : ℕ) (a : List ℕ) → Next (hex_go a h 1) (hex_go a h 0)
  on h a = rw (hex_moved a h 1 0) (moved_next (hex_go a h 0))

  by_step : ((h : ℕ) → Found h rest) → (st : HexStep) → step_of half b ≡ st → Found half (b ∷ rest)
  unfolding hex_go right said_place
  by_step f Refuse e = rw e (bad_here b rest (ends half) (λ a. rw e))
  by_step f Skip e = next 16 (λ a. rw e (on 16 a)) (f 16)
  by_step f (First h) e = next h (λ a. rw e (on h a)) (f h)
  by_step f (Whole x) e = next 16 (λ a. rw e (before_next x (hex_go a 16 1) (hex_go a 16 0) (on 16 a))) (f 16)

go : (l : List ℕ) (half : ℕ) → Found half l
unfolding hex_go said_place
go [] half = bad_end (ends half)
go (b ∷ rest) half = by_step b half rest (λ h. go rest h) (step_of half b) refl

-- the place that hex data tell is that of the first byte that they cannot take
pub hex_first_bad : (l : List ℕ) → FirstBad (λ a. is_good (hex_at a 0)) l (said_place (length l) (hex_at l 0))
unfolding hex_at right
hex_first_bad l = go l 16

-- ---- hex data that are not empty

abbrev pub is_some : Said → Bool
is_some (good []) = false
is_some (good (b ∷ bs)) = true
is_some (bad at) = false

before_some : (b : ℕ) (x : Said) → is_good x ≡ true → is_some (byte_before b x) ≡ true
unfolding byte_before
before_some b (good bs) e = refl
before_some b (bad at) e = e

some_good : (x : Said) → is_some x ≡ true → is_good x ≡ true
some_good (good []) e = refl
some_good (good (b ∷ bs)) e = refl
some_good (bad at) e = e

pub before_good : (b : ℕ) (x : Said) → is_good (byte_before b x) ≡ is_good x
unfolding byte_before
before_good b (good bs) = refl
before_good b (bad at) = refl

after_some : (at : ℕ) (st : HexStep) (f g : ℕ → Said) → ((d : ℕ) → is_good (f d) ≡ true → is_some (g d) ≡ true) → is_good (after_step at st (f 16) f) ≡ true
    → is_some (after_step at st (g 16) g) ≡ true
after_some at Refuse f g h k = k
after_some at Skip f g h k = h 16 k
after_some at (First d) f g h k = h d k
after_some at (Whole b) f g h k = before_some b (g 16) (some_good (g 16) (h 16 (sym (before_good b (f 16)) ∙ k)))

digit_ends_go : (x e : List ℕ) (half at : ℕ) → is_good (hex_go (x ++ e) half at) ≡ true → is_some (hex_go (x ++ 48 ∷ []) half at) ≡ true
unfolding hex_go step_of digit_of byte_before
digit_ends_go [] e half at h = case (ltb half 16)
  where
    case : (t : Bool) → is_some (after_step at (cond t (Whole (half * 16 + 0)) (First 0)) (good []) (λ d. hex_go [] d (at + 1))) ≡ true
    case true = refl
    case false = refl
digit_ends_go (b ∷ x) e half at h =
    after_some at (step_of half b) (λ d. hex_go (x ++ e) d (at + 1)) (λ d. hex_go (x ++ 48 ∷ []) d (at + 1)) (λ d k. digit_ends_go x e d (at + 1) k) h

-- a digit behind good data makes them good and not empty
pub digit_ends : (x e : List ℕ) → is_good (hex_at (x ++ e) 0) ≡ true → is_some (hex_at (x ++ 48 ∷ []) 0) ≡ true
unfolding hex_at
digit_ends x e h = digit_ends_go x e 16 0 h

-- ---- one byte

second_read : (h : ℕ) (l : List ℕ) (at : ℕ) → is_byte_read (hex_second h l at) ≡ true
unfolding hex_second
second_read h [] at = refl
second_read h (b ∷ l) at = case (ltb (digit_of b) 16)
  where
    case : (t : Bool) → is_byte_read (cond t (value_at (h * 16 + digit_of b) (at + 1)) (value_at h at)) ≡ true
    case true = refl
    case false = refl

read_place : (end : ℕ) (x : NumberRead) → is_byte_read x ≡ true → byte_place end x ≡ end
unfolding byte_place
read_place end (Ok n) e = refl
read_place end (Err at) e = true_is_false (sym e)

-- the first digit decides
pub byte_by_first : (b : ℕ) (l : List ℕ) → is_byte_read (hex_byte_of (b ∷ l) 0) ≡ ltb (digit_of b) 16
unfolding hex_byte_of
byte_by_first b l = case (ltb (digit_of b) 16)
  where
    case : (t : Bool) → is_byte_read (cond t (hex_second (digit_of b) l 1) (Err 0)) ≡ t
    case true = second_read (digit_of b) l 1
    case false = refl

byte_ends : CanEnd (λ a. is_byte_read (hex_byte_at a 0)) []
unfolding hex_byte_at hex_byte_of hex_second digit_of is_byte in_line
byte_ends = record { ending = 48 ∷ []; holds = refl; makes = refl }

-- the place that one byte in hex tells; "more is ignored"
pub byte_first_bad : (l : List ℕ) → FirstBad (λ a. is_byte_read (hex_byte_at a 0)) l (byte_place (length l) (hex_byte_at l 0))
unfolding hex_byte_at hex_byte_of byte_place
byte_first_bad [] = bad_end byte_ends
byte_first_bad (b ∷ l) = case (ltb (digit_of b) 16) refl
  where
    read : ltb (digit_of b) 16 ≡ true → (a : List ℕ) → is_byte_read (hex_byte_of (b ∷ a) 0) ≡ true
    read e a = byte_by_first b a ∙ e

    case : (t : Bool) → ltb (digit_of b) 16 ≡ t → FirstBad (λ a. is_byte_read (hex_byte_of a 0)) (b ∷ l) (byte_place (suc (length l)) (hex_byte_of (b ∷ l) 0))
    case true e = rw (read_place (suc (length l)) (hex_byte_of (b ∷ l) 0) (read e l)) (bad_next b l (none_bad (read e) l))
    case false e = rw e (bad_here b l byte_ends (λ a. rw e))
