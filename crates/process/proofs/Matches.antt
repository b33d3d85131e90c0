-- After any bytes, what WAIT DATA has matched is the longest prefix of its data that the bytes end in; so what no such prefix reaches does not count,
-- and one more byte matches as many after what was matched as after all that came. Assumes nothing.
use mathlib.Core.Path.{◌≡◌, refl, sym, ap, ◌∙◌}
use mathlib.Core.Bool.{Bool, true, false, cond}
use mathlib.Core.List.{List, [], ◌∷◌, ◌++◌, append_assoc}
use Prim.Native.Nat.{ℕ, zero, suc, ◌+◌, ◌-◌, ◌≤◌, ◌<◌}
use native.Mathlib.Nat.{le_antisymm}
use native.Mathlib.Decide.{dec_lt}
use native.Mathlib.Omega.{arith}
use lib.ListN.{length, take, length-append, length-drop, take-append-drop, drop_of_length-le}
use lib.Seq.{drop-append-le, take_at, drop-append-add, take-take}
use Rattle.reader.specs.Bytes.{same}
use Rattle.reader.proofs.Same.{same_is, is_same}
use Rattle.process.specs.Matching.{last, longest_match, progress, recent, advance}

-- the first j bytes of d are the last j of xs
pub record Ends (d xs : List ℕ) (j : ℕ) : Type 0 where
  pub within : j ≤ length xs
  pub equal : take j d ≡ last j xs

-- The longest overlap: it is one, and every overlap is at most as long.
module _ (d xs : List ℕ) where
  none : Ends d xs 0
  none = record { within = omega arith; equal = sym (drop_of_length-le xs {i = length xs - 0} (omega arith)) }

  one_more : (n : ℕ) (t : Bool) → same (take (suc n) d) (last (suc n) xs) ≡ t → suc n ≤ length xs → Ends d xs (longest_match d xs n)
      → Ends d xs (cond t (suc n) (longest_match d xs n))
  one_more n true e h rest = record { within = h; equal = same_is (take (suc n) d) (last (suc n) xs) e }
  one_more n false e h rest = rest

  fits_to : (n : ℕ) → n ≤ length xs → Ends d xs (longest_match d xs n)
  fits_to zero h = none
  fits_to (suc n) h = one_more n (same (take (suc n) d) (last (suc n) xs)) refl h (fits_to n (omega arith))

  pub fits : Ends d xs (progress d xs)
  unfolding progress
  fits = fits_to (length xs) (omega arith)

  at_top : (n : ℕ) → Ends d xs (suc n) → suc n ≤ longest_match d xs (suc n)
  at_top n w = rw (is_same w.equal) (omega arith)

  at_less : (n j : ℕ) (t : Bool) → j ≤ n → j ≤ longest_match d xs n → j ≤ cond t (suc n) (longest_match d xs n)
  at_less n j true h m = omega arith
  at_less n j false h m = m

  most_to : (n j : ℕ) → j ≤ n → Ends d xs j → j ≤ longest_match d xs n
  most_to zero j h w = h
  most_to (suc n) j h w = by (λ low. most_to n j low w) (dec_lt n j)
    where
      by : (j ≤ n → j ≤ longest_match d xs n) → Dec (n < j) → j ≤ longest_match d xs (suc n)
      by less (yes p) =
          let top : j ≡ suc n = omega arith in
          rw top (at_top n (rw top at w))
      by less (no p) =
          let low : j ≤ n = omega arith in
          at_less n j (same (take (suc n) d) (last (suc n) xs)) low (less low)

  pub most : (j : ℕ) → Ends d xs j → j ≤ progress d xs
  unfolding progress
  most j w = most_to (length xs) j w.within w

-- The last j bytes are those of a suffix that has as many.
pub last_suffix : (j : ℕ) (a c : List ℕ) → j ≤ length c → last j (a ++ c) ≡ last j c
last_suffix j a c h =
    let n : length (a ++ c) - j ≡ length a + (length c - j) = rw (length-append a c) (omega arith) in
    rw n (drop-append-add a c (length c - j))

-- Bytes a in front, which no overlap reaches, do not count.
module _ (d a c : List ℕ) (short : (j : ℕ) → Ends d (a ++ c) j → j ≤ length c) where
  shorter : (j : ℕ) → Ends d (a ++ c) j → Ends d c j
  shorter j w = record { within = short j w; equal = w.equal ∙ last_suffix j a c (short j w) }

  longer : (j : ℕ) → Ends d c j → Ends d (a ++ c) j
  longer j w = record { within = omega (arith, w.within, length-append a c); equal = w.equal ∙ sym (last_suffix j a c w.within) }

  pub front_gone : progress d (a ++ c) ≡ progress d c
  front_gone = le_antisymm (most d c _ (shorter _ (fits d (a ++ c)))) (most d (a ++ c) _ (longer _ (fits d c)))

-- What ends in the first j + 1 bytes of d, and b last, ended in the first j before b.
ends_before : (d xs : List ℕ) (b j : ℕ) → Ends d (xs ++ (b ∷ [])) (suc j) → Ends d xs j
ends_before d xs b j w =
    let n : length (xs ++ (b ∷ [])) ≡ length xs + 1 = length-append xs (b ∷ []) in
    let h : j ≤ length xs = omega (arith, w.within) in
    let at : length xs + 1 - suc j ≡ length xs - j = omega arith in
    let cut : last (suc j) (xs ++ (b ∷ [])) ≡ last j xs ++ (b ∷ []) = rw (n, at) (drop-append-le (length xs - j) xs (b ∷ []) (omega arith)) in
    let long : length (last j xs) ≡ j = length-drop (length xs - j) xs ∙ omega arith in
    record {
      within = h;
      equal = sym (take-take j (suc j) d (omega arith)) ∙ ap (take j) (w.equal ∙ cut) ∙ take_at (last j xs) (b ∷ []) j long;
    }

-- From what is matched of xs, one more byte is matched as from xs.
module _ (d xs : List ℕ) (b k : ℕ) (matched : Ends d xs k) (largest : (j : ℕ) → Ends d xs j → j ≤ k) where
  before : List ℕ
  before = take (length xs - k) xs

  -- xs and b are some bytes, and then those matched and b
  parted : xs ++ (b ∷ []) ≡ before ++ recent d k b
  unfolding before
  parted =
      ap (λ (l : List ℕ). l ++ (b ∷ [])) (sym (take-append-drop (length xs - k) xs))
      ∙ append_assoc (take (length xs - k) xs) (last k xs) (b ∷ [])
      ∙ ap (λ (l : List ℕ). take (length xs - k) xs ++ (l ++ (b ∷ []))) (sym matched.equal)

  kept_length : length (recent d k b) ≡ k + 1
  kept_length =
      let n : length (take k d) ≡ k = ap length matched.equal ∙ length-drop (length xs - k) xs ∙ omega (arith, matched.within) in
      length-append (take k d) (b ∷ []) ∙ omega arith

  short : (j : ℕ) → Ends d (before ++ recent d k b) j → j ≤ length (recent d k b)
  short zero w = omega arith
  short (suc j) w = omega (arith, largest j (ends_before d xs b j (rw (← parted) at w)), kept_length)

  step : progress d (recent d k b) ≡ progress d (xs ++ (b ∷ []))
  step = sym (ap (progress d) parted ∙ front_gone d before (recent d k b) short)

-- One more byte, from what the bytes xs matched, matches as many as xs and the byte.
pub one_byte : (d xs : List ℕ) (b : ℕ) → advance d (progress d xs) b ≡ progress d (xs ++ (b ∷ []))
unfolding advance
one_byte d xs b = step d xs b (progress d xs) (fits d xs) (most d xs)
