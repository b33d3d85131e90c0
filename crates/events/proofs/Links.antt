-- The links of WAIT DATA's data: what a link is, that each is made from the one before it, and that a mismatch goes on from the link of what was
-- matched. Assumes nothing.
use mathlib.Core.Path.{◌≡◌, refl, sym, ap, ◌∙◌}
use mathlib.Core.List.{List, [], ◌∷◌, ◌++◌, append_assoc}
use Prim.Native.Nat.{ℕ, ◌+◌, ◌-◌, ◌≤◌, ◌<◌}
use native.Mathlib.Nat.{le_antisymm}
use native.Mathlib.Decide.{dec_lt}
use native.Mathlib.Numerals.{add-one}
use native.Mathlib.Omega.{arith}
use lib.ListN.{length, get_or, set, take, drop, length-append, length-take, length-drop, take-append-drop}
use lib.Seq.{take-suc, drop-append-le, get_or_at, get_or-take, get_or-set_same, get_or-set_other, length-take-le}
use Rattle.process.specs.Matching.{last, progress, recent, advance}
use Rattle.process.proofs.Matches.{Ends, fits, most, last_suffix, front_gone, one_byte}
use Rattle.events.specs.Inside.Links.{link, Linked, LongestBorder}

-- ---- what a link is

module _ (d : List ℕ) (k : ℕ) where
  -- the first k bytes but the first
  abbrev others : List ℕ
  others = drop 1 (take k d)

  link_within : link d k ≤ k - 1
  unfolding link
  link_within =
      let n : length others ≤ k - 1 = simp (length-drop, length-take) (omega arith) in
      omega (arith, (fits d others).within)

  link_less : 0 < k → link d k < k
  link_less some = omega (arith, link_within)

  pub link_first : k ≤ 1 → link d k ≡ 0
  link_first h = omega (arith, link_within)

  module _ (inside : k ≤ length d) where
    others_length : length others ≡ k - 1
    others_length = length-drop 1 (take k d) ∙ omega (arith, length-take-le k d inside)

    -- fewer than k bytes, taken from the end, leave out the first
    last_others : (j : ℕ) → j < k → last j (take k d) ≡ last j others
    last_others j h =
        let parts : take 1 (take k d) ++ others ≡ take k d = take-append-drop 1 (take k d) in
        rw parts at (last_suffix j (take 1 (take k d)) others (omega (arith, others_length)))

    -- the link of k is the longest border of the first k bytes that is not all of them
    pub link_is : 0 < k → LongestBorder d k (link d k)
    unfolding link
    link_is some = record {
      below = link_less some;
      border = (fits d others).equal ∙ sym (last_others (link d k) (link_less some));
      longest = λ i h e. most d others i (record { within = omega (arith, others_length); equal = e ∙ last_others i h });
    }

-- ---- one more byte, where k bytes are matched

module _ (d : List ℕ) (k b : ℕ) (here : k < length d) where
  first_length : length (take k d) ≡ k
  first_length = length-take-le k d (omega arith)

  recent_length : length (recent d k b) ≡ k + 1
  recent_length = length-append (take k d) (b ∷ []) ∙ omega (arith, first_length)

  -- at most one byte more is matched
  pub advance_le : {r : ℕ} → r ≡ advance d k b → r ≤ k + 1
  unfolding advance
  advance_le e = omega (arith, (fits d (recent d k b)).within, recent_length)

  whole : last (k + 1) (recent d k b) ≡ recent d k b
  whole =
      let n : length (recent d k b) - (k + 1) ≡ 0 = omega (arith, recent_length) in
      rw n

  -- the next byte of the data goes on with the match
  pub advance_hit : get_or d k 0 ≡ b → k + 1 ≡ advance d k b
  unfolding advance
  advance_hit e =
      let more : take (k + 1) d ≡ recent d k b = rw (add-one k, take-suc d k 0 here, e) in
      let ends : Ends d (recent d k b) (k + 1) = record { within = omega (arith, recent_length); equal = more ∙ sym whole } in
      le_antisymm (most d (recent d k b) (k + 1) ends) (advance_le refl)

  parted : recent d k b ≡ take 1 (take k d) ++ (others d k ++ (b ∷ []))
  parted = ap (λ (l : List ℕ). l ++ (b ∷ [])) (sym (take-append-drop 1 (take k d))) ∙ append_assoc (take 1 (take k d)) (others d k) (b ∷ [])

  module _ (other : get_or d k 0 ≡ b → ⊥) where
    not_whole : Ends d (recent d k b) (k + 1) → ⊥
    not_whole w =
        other (sym (get_or-take (k + 1) d k 0 (omega arith)) ∙ ap (λ (l : List ℕ). get_or l k 0) (w.equal ∙ whole) ∙ get_or_at (take k d) b [] 0 k first_length)

    short : (j : ℕ) → Ends d (recent d k b) j → j ≤ k
    short j w = by (dec_lt k j)
      where
        by : Dec (k < j) → j ≤ k
        by (yes p) =
            let top : j ≡ k + 1 = omega (arith, w.within, recent_length) in
            absurd (not_whole (rw top at w))
        by (no p) = omega arith

    -- where nothing was matched, another byte matches nothing
    pub advance_none : k ≡ 0 → 0 ≡ advance d k b
    unfolding advance
    advance_none none = omega (arith, short _ (fits d (recent d k b)))

    -- a mismatch goes on from the link: the first byte of all cannot count
    pub advance_link : 0 < k → advance d k b ≡ advance d (link d k) b
    unfolding advance link
    advance_link some =
        let n : length (others d k ++ (b ∷ [])) ≡ k = length-append (others d k) (b ∷ []) ∙ omega (arith, others_length d k (omega arith)) in
        ap (progress d) parted
        ∙ front_gone d (take 1 (take k d)) (others d k ++ (b ∷ [])) (λ j w. rw n (short j (rw (← parted) at w)))
        ∙ sym (one_byte d (others d k) b)

-- ---- a table of links

-- each link is made from the one before it
link_more : (d : List ℕ) (k : ℕ) → 0 < k → k < length d → link d (k + 1) ≡ advance d (link d k) (get_or d k 0)
unfolding link
link_more d k some here =
    let n : 1 ≤ length (take k d) = omega (arith, length-take-le k d (omega arith)) in
    rw (add-one k, take-suc d k 0 here, drop-append-le 1 (take k d) (get_or d k 0 ∷ []) n) (sym (one_byte d (others d k) (get_or d k 0)))

module _ {d ls : List ℕ} {i : ℕ} (there : Linked d ls i) where
  pub linked_fewer : {k : ℕ} → k ≤ i → Linked d ls k
  linked_fewer h = record { at = λ j some l. there.at j some (omega arith) }

  -- what the table has at j is below j, so that following ends
  pub linked_below : {j x : ℕ} → 0 < j → j ≤ i → x ≡ get_or ls j 0 → x < j
  linked_below {j} some h e = omega (arith, there.at j some h, link_less d j some)

  -- one more, from the link of i
  pub linked_more : {j n : ℕ} → 0 < i → i < length d → i + 1 < length ls → j ≡ get_or ls i 0 → n ≡ advance d j (get_or d i 0) → Linked d (set ls (i + 1) n) (i + 1)
  linked_more {j} {n} some here room e f = record { at = λ m one h. by m one h (dec_lt i m) }
    where
      by : (m : ℕ) → 0 < m → m ≤ i + 1 → Dec (i < m) → get_or (set ls (i + 1) n) m 0 ≡ link d m
      by m one h (yes p) =
          let top : m ≡ i + 1 = omega arith in
          let before : j ≡ link d i = e ∙ there.at i some (omega arith) in
          rw (top, get_or-set_same ls (i + 1) n 0 room, f, before) (sym (link_more d i some here))
      by m one h (no p) = get_or-set_other ls (i + 1) m n 0 (λ q. omega arith) ∙ there.at m one (omega arith)
