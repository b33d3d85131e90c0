-- Where a mismatch leaves WAIT DATA: the links between the counts of bytes that may be matched.
use Rattle.std.specs.Prelude.{ℕ, ◌≤◌, ◌<◌, ◌≡◌, List, get_or, take, drop}
use Rattle.process.specs.Matching.{last, progress}

-- the link of k: how many bytes of d, from its first, are the last of its first k bytes without the first
unfoldable pub link : List ℕ → ℕ → ℕ
link d k = progress d (drop 1 (take k d))

-- the table ls has the link of each count up to k, but for that of 0, which no mismatch follows
pub record Linked (d ls : List ℕ) (k : ℕ) : Type 0 where
  pub at : (j : ℕ) → 0 < j → j ≤ k → get_or ls j 0 ≡ link d j

-- j is the largest number below k such that so many bytes of d, from its first, are the last of its first k
pub record LongestBorder (d : List ℕ) (k j : ℕ) : Type 0 where
  pub below : j < k
  pub border : take j d ≡ last j (take k d)
  pub longest : (i : ℕ) → i < k → take i d ≡ last i (take k d) → i ≤ j
