-- "WAIT DATA ends when the last bytes received since it began equal its data": what has been matched, and what one more byte makes of it.
use Rattle.std.specs.Prelude.{ℕ, zero, suc, ◌-◌, cond, List, [], ◌∷◌, ◌++◌, length, take, drop}
use Rattle.reader.specs.Bytes.{same}

-- the last j bytes
abbrev pub last : ℕ → List ℕ → List ℕ
last j xs = drop (length xs - j) xs

-- the largest number up to n such that so many bytes of d, from its first, are the last bytes of xs
abbrev pub longest_match : List ℕ → List ℕ → ℕ → ℕ
longest_match d xs zero = zero
longest_match d xs (suc n) = cond (same (take (suc n) d) (last (suc n) xs)) (suc n) (longest_match d xs n)

-- how many bytes of the data d, from its first, are the last bytes received
unfoldable pub progress : List ℕ → List ℕ → ℕ
progress d xs = longest_match d xs (length xs)

-- what is known of the bytes received, where k bytes of d are matched and b comes
abbrev pub recent : List ℕ → ℕ → ℕ → List ℕ
recent d k b = take k d ++ (b ∷ [])

-- the bytes matched after b
unfoldable pub advance : List ℕ → ℕ → ℕ → ℕ
advance d k b = progress d (recent d k b)
