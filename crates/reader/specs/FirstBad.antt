-- No. 3: "the place of the first byte they can't take", of any reader: "the first byte after which no ending, however long, makes the line
-- right, or the line's length plus one if there is none". Places count from 0.
use Rattle.std.specs.Prelude.{ℕ, suc, ◌≤◌, ◌<◌, ◌≡◌, Bool, true, false, List, ◌++◌, length, take}
use Rattle.reader.specs.Bytes.{all, in_line}

-- some ending makes these bytes right: a line can hold it
pub record CanEnd (right : List ℕ → Bool) (l : List ℕ) : Type 0 where
  pub ending : List ℕ
  pub holds : all in_line ending ≡ true
  pub makes : right (l ++ ending) ≡ true

-- what stands before the place can be ended rightly; with the byte at the place nothing can, unless the place is the end
pub record FirstBad (right : List ℕ → Bool) (l : List ℕ) (place : ℕ) : Type 0 where
  pub inside : place ≤ length l
  pub before : CanEnd right (take place l)
  pub never : place < length l → (ending : List ℕ) → right (take (suc place) l ++ ending) ≡ false
