-- Digits put into a buffer that has room for them are its first bytes. Assumes nothing.
use Rattle.std.specs.Prelude.{Option, Some, IsSome}
use Prim.Native.Nat.{ℕ, ◌+◌, ◌≤◌}
use mathlib.Core.Path.{◌≡◌, refl, sym, ap, ◌∙◌}
use mathlib.Core.List.{List}
use native.Mathlib.Omega.{arith}
use lib.ListN.{length, take, drop}
use lib.Seq.{take_at, length-take-le}
use borrow.Author.Tests.{le-leb}
use Rattle.writer.specs.Put.{put_answer, put_into, two_digits}
use Rattle.writer.proofs.Joined.{put_length, put_there}

pub two_few : (n : ℕ) → length (two_digits n) ≤ 2
unfolding two_digits
two_few n = omega arith

module _ (bs d : List ℕ) {x : Option ℕ} (told : x ≡ put_answer bs d 0) (fits : length bs ≤ length d) where
  room : 0 + length bs ≤ length d
  room = omega arith

  answered : x ≡ Some (0 + length bs)
  unfolding put_answer
  answered = told ∙ rw (le-leb (0 + length bs) (length d) room)

  pub some : IsSome x
  some = rw answered refl

  module _ {n : ℕ} (is : x ≡ Some n) where
    count : n ≡ length bs
    count = let e : n ≡ 0 + length bs = cc (answered) in omega arith

    module _ {e : List ℕ} (into : e ≡ put_into bs d 0) where
      pub inside : n ≤ length e
      inside = omega (arith, count, put_length bs d 0, ap length into)

      pub enough : n ≡ length (take n e)
      enough = sym (length-take-le n e inside)

      pub first_bytes_lem : take n e ≡ bs
      first_bytes_lem = rw (into, put_there bs d 0 room) (take_at bs (drop (0 + length bs) d) n (sym count))
