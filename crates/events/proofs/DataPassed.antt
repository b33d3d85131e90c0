-- How far a run of bytes goes with WAIT DATA: up to the byte that matches all of its data, or all. Assumes nothing.
use mathlib.Core.Path.{◌≡◌, refl, sym, ap, ◌∙◌}
use mathlib.Core.Bool.{Bool, true, false, cond}
use mathlib.Core.List.{List, [], ◌∷◌}
use Prim.Native.Nat.{ℕ, suc, ◌+◌, ◌-◌, ◌≤◌, ◌<◌}
use native.Mathlib.Decide.{ℕ_discrete}
use native.Mathlib.Numerals.{add-one}
use native.Mathlib.Omega.{arith}
use lib.Dec.{ltb}
use lib.ListN.{length, get_or, take, drop, length-drop}
use lib.Seq.{drop-cons, take_all, take-length}
use borrow.Author.Tests.{eq-eqb, ne_eqb}
use Rattle.process.specs.declared.Progress.{Progress}
use Rattle.process.specs.declared.Wait.{Wait}
use Rattle.process.specs.declared.Wait.TheVariants.{Ready, Over, Bytes, Data}
use Rattle.process.specs.Matching.{advance}
use Rattle.process.specs.Waiting.{ready_wait, awake, awaited, matched_to, matched_wait, byte_wait}
use Rattle.events.specs.declared.matching.Matched.{Matched}
use Rattle.events.specs.Inside.Passing.{through, reach, at_least1, byte_on, passed_by, ended_at, farther, matched_on}
use Rattle.events.proofs.Links.{advance_le}
use Rattle.events.proofs.DataCases.{match_ends, match_stays}
use Rattle.events.proofs.WaitsPassed.{EndsAt, first_ends, later_ends, down_ends, down_stays, down_far}

-- the rest of a run, as the code takes it
pub rest_is : (xs : List ℕ) (n : ℕ) → take (length xs - n) (drop n xs) ≡ drop n xs
rest_is xs n = take_all (length xs - n) (drop n xs) (omega (arith, length-drop n xs))

-- ---- what is matched, byte by byte

module _ (d : List ℕ) where
  -- all of the data are matched
  pub whole_stops : (k : ℕ) (xs : List ℕ) → k ≡ length d → matched_on d k xs ≡ record { matched = k; count = 0 }
  unfolding matched_on
  whole_stops k [] e = refl
  whole_stops k (x ∷ xs) e = rw (eq-eqb k (length d) e)

  one_more : (k x : ℕ) (xs : List ℕ) → k < length d → matched_on d k (x ∷ xs) ≡ farther 1 (matched_on d (advance d k x) xs)
  unfolding matched_on
  one_more k x xs h = rw (ne_eqb k (length d) (λ e. omega arith))

  advance_most : (k x : ℕ) → k < length d → advance d k x ≤ k + 1
  advance_most k x h = advance_le d k x h refl

  pub matched_most : (k : ℕ) (xs : List ℕ) → k ≤ length d → (matched_on d k xs).matched ≤ length d
  matched_most k [] h = unfold matched_on in h
  matched_most k (x ∷ xs) h = by (λ l. matched_most (advance d k x) xs (omega (arith, advance_most k x l))) (ℕ_discrete k (length d))
    where
      by : (k < length d → (matched_on d (advance d k x) xs).matched ≤ length d) → Dec (k ≡ length d) → (matched_on d k (x ∷ xs)).matched ≤ length d
      by rest (yes e) = rw (whole_stops k (x ∷ xs) e) h
      by rest (no n) =
          let l : k < length d = omega arith in
          rw (one_more k x xs l) (rest l)

  pub matched_few : (k : ℕ) (xs : List ℕ) → k ≤ length d → (matched_on d k xs).count ≤ length xs
  matched_few k [] h = unfold matched_on in omega arith
  matched_few k (x ∷ xs) h = by (λ l. matched_few (advance d k x) xs (omega (arith, advance_most k x l))) (ℕ_discrete k (length d))
    where
      by : (k < length d → (matched_on d (advance d k x) xs).count ≤ length xs) → Dec (k ≡ length d) → (matched_on d k (x ∷ xs)).count ≤ suc (length xs)
      by rest (yes e) = rw (whole_stops k (x ∷ xs) e) (omega arith)
      by rest (no n) =
          let l : k < length d = omega arith in
          rw (one_more k x xs l) (omega (arith, rest l))

  -- the loop's state: i bytes are passed, and k matched
  pub begun : (from : ℕ) (xs : List ℕ) → matched_on d from xs ≡ farther 0 (matched_on d from (drop 0 xs))
  begun from xs = let e : 0 + (matched_on d from xs).count ≡ (matched_on d from xs).count = omega arith in rw e

  module _ (from i k : ℕ) (xs : List ℕ) (w : matched_on d from xs ≡ farther i (matched_on d k (drop i xs))) where
    pub matched_on_lem : {j : ℕ} → k < length d → i < length xs → j ≡ advance d k (get_or xs i 0) → matched_on d from xs ≡ farther (i + 1) (matched_on d j (drop (i + 1) xs))
    matched_on_lem {j} h inside e =
        let c : ℕ = (matched_on d (advance d k (get_or xs i 0)) (drop (suc i) xs)).count in
        let sum : i + (1 + c) ≡ suc i + c = omega arith in
        w ∙ rw (drop-cons xs i 0 inside, one_more k (get_or xs i 0) (drop (suc i) xs) h, e, add-one i, sum)

    at_end_lem : (m : Matched) → m ≡ record { matched = k; count = 0 } → record { matched = k; count = i } ≡ farther i m
    at_end_lem m e = let n : i + 0 ≡ i = omega arith in rw (e, n)

    pub matched_whole : k ≡ length d → record { matched = k; count = i } ≡ matched_on d from xs
    matched_whole e = at_end_lem _ (whole_stops k (drop i xs) e) ∙ sym w

    pub matched_end : drop i xs ≡ [] → record { matched = k; count = i } ≡ matched_on d from xs
    matched_end e = at_end_lem _ (ap (matched_on d k) e ∙ (unfold matched_on in refl)) ∙ sym w

-- ---- how far bytes go with a wait

module _ (pool : List ℕ) (place end : ℕ) where
  awake_stays : (x : ℕ) → byte_on pool place end x (awake place end) ≡ awake place end
  unfolding awake
  awake_stays x = go (ltb place end)
    where
      go : (u : Bool) → byte_wait pool x place end (cond u Ready Over) ≡ cond u Ready Over
      go true = refl
      go false = refl

  -- as far as that
  pub passed_is : (v u : Wait) (xs : List ℕ) (n : ℕ) → reach (byte_on pool place end) ready_wait xs v ≡ n → through (byte_on pool place end) (take n xs) v ≡ u →
      record { wait = u; count = n } ≡ passed_by pool place end xs v
  unfolding passed_by
  passed_is v u xs n e f = rw (e, f)

  -- a wait that stays takes all
  pub passed_all : (v u : Wait) (xs : List ℕ) → reach (byte_on pool place end) ready_wait xs v ≡ length xs → through (byte_on pool place end) xs v ≡ u →
      record { wait = u; count = length xs } ≡ passed_by pool place end xs v
  passed_all v u xs e f = passed_is v u xs (length xs) e (rw (take-length xs) f)

  -- a wait that ends stops the run where its process is ready
  pub passed_ended : (v : Wait) (xs : List ℕ) (n : ℕ) → EndsAt (byte_on pool place end) v (awake place end) xs n → ended_at n (length xs) place end ≡ passed_by pool place end xs v
  unfolding ended_at awake
  passed_ended v xs n h = go (ltb place end) refl
    where
      go : (u : Bool) → ltb place end ≡ u → cond u (record { wait = Ready; count = n }) (record { wait = Over; count = length xs }) ≡ passed_by pool place end xs v
      go true e =
          let w : cond (ltb place end) Ready Over ≡ Ready = rw e in
          passed_is v Ready xs n (h.far ∙ ap (λ (z : Wait). cond (ready_wait z) n (length xs)) w) (h.there ∙ w)
      go false e =
          let w : cond (ltb place end) Ready Over ≡ Over = rw e in
          passed_all v Over xs (h.far ∙ ap (λ (z : Wait). cond (ready_wait z) n (length xs)) w) (h.after ∙ w)

  -- ---- WAIT BYTE

  pub bytes_end : (n : ℕ) (xs : List ℕ) → at_least1 n ≤ length xs → ended_at (at_least1 n) (length xs) place end ≡ passed_by pool place end xs (Bytes n)
  bytes_end n xs h = passed_ended (Bytes n) xs (at_least1 n) (down_ends (byte_on pool place end) (awake place end) awake_stays Bytes (λ x m. refl) (λ m. refl) n xs h)

  pub bytes_stay : (n : ℕ) (xs : List ℕ) → length xs < at_least1 n → record { wait = Bytes (n - length xs); count = length xs } ≡ passed_by pool place end xs (Bytes n)
  bytes_stay n xs h =
      passed_all (Bytes n) _ xs
      (down_far (byte_on pool place end) (awake place end) awake_stays Bytes (λ x m. refl) (λ m. refl) n xs h)
      (down_stays (byte_on pool place end) (awake place end) awake_stays Bytes (λ x m. refl) (λ m. refl) n xs h)

  -- ---- WAIT DATA

  module _ (m : Progress) (sized : length (awaited pool m) ≡ m.count) where
    abbrev d : List ℕ
    d = awaited pool m

    abbrev at : ℕ → Wait
    at k = Data (matched_to m k)

    data_ends : (k : ℕ) (xs : List ℕ) → k < m.count → (matched_on d k xs).matched ≡ m.count →
        EndsAt (byte_on pool place end) (at k) (awake place end) xs (matched_on d k xs).count
    unfolding matched_wait
    data_ends k [] h e = let f : k ≡ m.count = unfold matched_on in e in absurd (omega arith)
    data_ends k (x ∷ xs) h e =
        let l : k < length d = omega (arith, sized) in
        let f : (matched_on d (advance d k x) xs).matched ≡ m.count = rw (one_more d k x xs l) at e in
        let n : (c : ℕ) → 1 + c ≡ suc c = λ c. omega arith in
        rw (one_more d k x xs l, n (matched_on d (advance d k x) xs).count) (by (advance d k x) refl f (λ b. data_ends (advance d k x) xs b f) (ℕ_discrete (advance d k x) m.count))
      where
        by : (j : ℕ) → j ≡ advance d k x → (matched_on d j xs).matched ≡ m.count →
            (j < m.count → EndsAt (byte_on pool place end) (at j) (awake place end) xs (matched_on d j xs).count) → Dec (j ≡ m.count) →
            EndsAt (byte_on pool place end) (at k) (awake place end) (x ∷ xs) (suc (matched_on d j xs).count)
        by j g f rest (yes p) =
            rw (whole_stops d j xs (p ∙ sym sized))
            (first_ends (byte_on pool place end) (awake place end) awake_stays (at k) x xs (match_ends place end m (advance d k x) (sym g ∙ p)))
        by j g f rest (no p) =
            let l : k < length d = omega (arith, sized) in
            let less : j < m.count = omega (arith, advance_most d k x l) in
            later_ends (byte_on pool place end) (awake place end) awake_stays (at k) (at j) x xs _
            (match_stays place end m (advance d k x) (λ q. p (g ∙ q)) ∙ ap at (sym g)) refl (rest less)

    data_on : (k : ℕ) (xs : List ℕ) → k < m.count → ((matched_on d k xs).matched ≡ m.count → ⊥) →
        (through (byte_on pool place end) xs (at k) ≡ at (matched_on d k xs).matched) × (reach (byte_on pool place end) ready_wait xs (at k) ≡ length xs)
    unfolding through reach matched_wait matched_on
    data_on k [] h n = unfold matched_on in (refl, refl)
    data_on k (x ∷ xs) h n =
        let l : k < length d = omega (arith, sized) in
        let j = advance d k x in
        let other : j ≡ m.count → ⊥ = λ e. n (rw (one_more d k x xs l, whole_stops d j xs (e ∙ sym sized)) e) in
        let less : j < m.count = omega (arith, advance_most d k x l) in
        let step = match_stays place end m j other in
        let rest = data_on j xs less (λ e. n (rw (one_more d k x xs l) e)) in
        rw (one_more d k x xs l, step) (rest.0, ap suc rest.1)

    module _ (xs : List ℕ) {r : Matched} (h : m.matched < m.count) (e : r ≡ matched_on d m.matched xs) where
      pub data_whole : r.matched ≡ m.count → ended_at r.count (length xs) place end ≡ passed_by pool place end xs (Data m)
      data_whole f = rw e (passed_ended (Data m) xs _ (data_ends m.matched xs h (rw e at f)))

      pub data_part : (r.matched ≡ m.count → ⊥) → record { wait = at r.matched; count = length xs } ≡ passed_by pool place end xs (Data m)
      data_part n = let w = data_on m.matched xs h (λ f. n (rw e f)) in rw e (passed_all (Data m) _ xs w.1 w.0)
