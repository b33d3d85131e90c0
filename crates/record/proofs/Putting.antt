-- What the writers of `reader` have put, as the record needs it. Assumes nothing.
use Prim.Native.Nat.{ℕ, ◌+◌, ◌-◌, ◌≤◌, ◌<◌, min}
use mathlib.Core.Path.{◌≡◌, refl, sym, ap, ◌∙◌}
use mathlib.Core.Bool.{false}
use mathlib.Core.List.{List, []}
use native.Mathlib.Omega.{arith}
use Rattle.std.proofs.lemmas.Grind.{common_steps}
use lib.ListN.{length, take, drop, length-take}
use lib.Seq.{sets, take_at}
use borrow.Author.Tests.{le-leb, lt-leb}
use Rattle.writer.specs.Put.{put_answer, put_into}
use Rattle.std.specs.Prelude.{Option, Some, None, IsSome}
use Rattle.writer.proofs.Joined.{put_there, put_length}
use Rattle.process.specs.declared.Reading.{Reading}
use Rattle.record.specs.Logging.{written_out, record_of, record_answer, record_into}

-- the same bytes under another name, put whole or cut
pub put_as : (d : List ℕ) (at : ℕ) {a b : List ℕ} → a ≡ b → {p : Option ℕ} {x : List ℕ} → (p ≡ put_answer a d at) × (x ≡ put_into a d at)
    → (p ≡ put_answer b d at) × (x ≡ put_into b d at)
put_as d at e h = rw e at h

pub put_nothing : (d : List ℕ) → (Some 0 ≡ put_answer [] d 0) × (d ≡ put_into [] d 0)
unfolding put_answer put_into
put_nothing d = let h : 0 + 0 ≤ length d = omega arith in (rw (le-leb _ _ h), rw (le-leb _ _ h))

-- ---- bytes cut at 127

pub put_sets : (bs d : List ℕ) (at : ℕ) → at + length bs ≤ length d → put_into bs d at ≡ sets d at bs
unfolding put_into
put_sets bs d at h = rw (le-leb _ _ h)

-- as many bytes as stand before 127
pub cut_at : (bs d : List ℕ) (at n : ℕ) {x : List ℕ} → at ≤ 127 → n ≡ min (length bs) (127 - at) → x ≡ put_into (take n bs) d at
    → (at + n ≡ at + length (take (127 - at) bs)) × (x ≡ put_into (take (127 - at) bs) d at)
cut_at bs d at n few e h =
    let t : take n bs ≡ take (127 - at) bs = rw e (grind (arith, common_steps)) in
    (rw (← t) (grind (arith, common_steps)), rw (← t) h)

-- ---- bytes put at the start of a slice that has room for them

module _ (bs d : List ℕ) (room : length bs ≤ length d) {p : Option ℕ} {x : List ℕ} (answer : p ≡ put_answer bs d 0) (put : x ≡ put_into bs d 0) where
  there : p ≡ Some (0 + length bs)
  unfolding put_answer
  there = let h : 0 + length bs ≤ length d = omega arith in answer ∙ rw (le-leb _ _ h)

  pub put_long : length x ≡ length d
  put_long = ap length put ∙ put_length bs d 0

  pub put_end : {n : ℕ} → p ≡ Some n → n ≡ length bs
  put_end {n} e = let t = there in let s : n ≡ 0 + length bs = cc in omega arith

  pub put_text : {n : ℕ} → p ≡ Some n → take n x ≡ bs
  put_text {n} e =
      let h : 0 + length bs ≤ length d = omega arith in
      ap (take n) (put ∙ put_there bs d 0 h) ∙ take_at bs (drop (0 + length bs) d) n (sym (put_end e))

  pub put_some : IsSome p
  put_some = rw there refl

-- ---- the record

module _ (r : Reading) (count : ℕ) (text d : List ℕ) where
  pub record_small : length d < 127 → (None ≡ record_answer r count text d) × (d ≡ record_into r count text d)
  unfolding record_answer record_into
  record_small h = (rw (lt-leb 127 (length d) h), rw (lt-leb 127 (length d) h))

  pub record_whole : 127 ≤ length d → {n : ℕ} {x : List ℕ}
      → (n ≡ length (take 127 (written_out r count text false))) × (x ≡ put_into (take 127 (written_out r count text false)) d 0)
      → (Some n ≡ record_answer r count text d) × (x ≡ record_into r count text d)
  unfolding record_answer record_into record_of
  record_whole h e =
      let w : List ℕ = take 127 (written_out r count text false) in
      let k : 0 + length w ≤ length d = omega (arith, length-take 127 (written_out r count text false)) in
      (rw (le-leb 127 (length d) h) (ap Some e.0), rw (le-leb 127 (length d) h) (e.1 ∙ put_sets w d 0 k))
