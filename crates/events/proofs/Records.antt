-- The records of a run of bytes: byte by byte, at most two for each, and as many as there is room for. Assumes nothing.
use mathlib.Core.Path.{◌≡◌, refl, ap, ◌∙◌}
use mathlib.Core.Bool.{Bool, true, false}
use mathlib.Core.List.{List, [], ◌∷◌, ◌++◌}
use Prim.Native.Nat.{ℕ, zero, suc, ◌+◌, ◌-◌, ◌≤◌, ◌<◌}
use native.Mathlib.Numerals.{add-one}
use native.Mathlib.Omega.{arith}
use lib.Dec.{ltb}
use lib.ListN.{set, length, get_or, take, drop, replicate, length-append, length-replicate, drop_of_length-le}
use lib.Seq.{drop-cons, take-take, length-take-le, sets}
use borrow.Author.Tests.{ltb-true, ltb-false, lt-ltb, le-ltb}
use Rattle.reader.proofs.Tests.{by_cases}
use Rattle.reader.proofs.Placing.{Placing, renamed, stored}
use Rattle.language.specs.declared.Heads.{Heads}
use Rattle.events.specs.Recording.{times_recorded}
use Rattle.events.specs.Inside.Passing.{records_of, room_for}
use Rattle.events.proofs.Copying.{times_few}

-- ---- some bytes at once, in place

copies_fit : {d₀ : List ℕ} {at : ℕ} {bs d : List ℕ} {place : ℕ} (n b : ℕ) (rest : List ℕ) → Placing d₀ at bs d place (replicate n b ++ rest) → place + n ≤ length d
copies_fit n b rest w = omega (arith, w.long, w.ends, w.room, length-append (replicate n b) rest, length-replicate n b)

placed_all : {d₀ : List ℕ} {at : ℕ} {bs d : List ℕ} {place : ℕ} (n b : ℕ) (rest : List ℕ) → Placing d₀ at bs d place (replicate n b ++ rest) →
    Placing d₀ at bs (sets d place (replicate n b)) (place + n) rest
placed_all {place = place} zero b rest w = let e : place + 0 ≡ place = omega arith in rw e w
placed_all {d = d} {place = place} (suc n) b rest w =
    let e : place + suc n ≡ suc place + n = omega arith in
    rw e (placed_all {d = set d place b} {place = suc place} n b rest (rw add-one at (stored w)))

module _ (h : Heads) (paused : Bool) where
  -- ---- a loop over the bytes: those from i on are left

  module _ (xs : List ℕ) (i : ℕ) where
    records_next : i < length xs →
        records_of h paused (drop i xs) ≡ replicate (times_recorded h paused (get_or xs i 0)) (get_or xs i 0) ++ records_of h paused (drop (i + 1) xs)
    unfolding records_of
    records_next l = rw (add-one i, drop-cons xs i 0 l)

    pub records_end : length xs ≤ i → records_of h paused (drop i xs) ≡ []
    unfolding records_of
    records_end l = rw (drop_of_length-le xs l)

    pub room_next : (left : ℕ) → i < length xs → 2 ≤ left →
        room_for h paused (drop i xs) left ≡ 1 + room_for h paused (drop (i + 1) xs) (left - times_recorded h paused (get_or xs i 0))
    unfolding room_for
    room_next left l r =
        let e : (n : ℕ) → 1 + n ≡ suc n = λ n. omega arith in
        rw (add-one i, drop-cons xs i 0 l, le-ltb left 2 r, e (room_for h paused (drop (suc i) xs) (left - times_recorded h paused (get_or xs i 0))))

    pub room_end : (left : ℕ) → length xs ≤ i → room_for h paused (drop i xs) left ≡ 0
    unfolding room_for
    room_end left l = rw (drop_of_length-le xs l)

  pub room_stops : (xs : List ℕ) (left : ℕ) → left < 2 → room_for h paused xs left ≡ 0
  unfolding room_for
  room_stops [] left l = refl
  room_stops (x ∷ xs) left l = rw (lt-ltb left 2 l)

  -- room for each byte twice
  pub room_all : (xs : List ℕ) (room : ℕ) → length xs + length xs ≤ room → length xs ≡ room_for h paused xs room
  unfolding room_for
  room_all [] room l = refl
  room_all (x ∷ xs) room l =
      rw (le-ltb room 2 (omega arith)) (ap suc (room_all xs (room - times_recorded h paused x) (omega (arith, times_few h x paused))))

  -- ---- the copies of the next byte, in place

  module _ {d₀ : List ℕ} {at : ℕ} {bs d : List ℕ} {place : ℕ} (xs : List ℕ) (i : ℕ) (l : i < length xs) (w : Placing d₀ at bs d place (records_of h paused (drop i xs))) where
    pub records_fit : place + times_recorded h paused (get_or xs i 0) ≤ length d
    records_fit = copies_fit (times_recorded h paused (get_or xs i 0)) (get_or xs i 0) _ (renamed (records_next xs i l) w)

    pub records_on : Placing d₀ at bs (sets d place (replicate (times_recorded h paused (get_or xs i 0)) (get_or xs i 0))) (place + times_recorded h paused (get_or xs i 0)) (records_of h paused (drop (i + 1) xs))
    records_on = placed_all (times_recorded h paused (get_or xs i 0)) (get_or xs i 0) _ (renamed (records_next xs i l) w)

  -- ---- the room is enough

  pub room_le : (xs : List ℕ) (room : ℕ) → room_for h paused xs room ≤ length xs
  unfolding room_for
  room_le [] room = omega arith
  room_le (x ∷ xs) room =
      by_cases (λ (n : ℕ). n ≤ suc (length xs)) (ltb room 2) 0 _ (λ e. omega arith) (λ e. omega (arith, room_le xs (room - times_recorded h paused x)))

  pub room_enough : (xs : List ℕ) (room n : ℕ) → n ≤ room_for h paused xs room → length (records_of h paused (take n xs)) ≤ room
  unfolding records_of
  room_enough xs room zero l = omega arith
  room_enough [] room (suc n) l = omega arith
  room_enough (x ∷ xs) room (suc n) l = go (ltb room 2) refl (λ r. room_enough xs (room - times_recorded h paused x) n r)
    where
      go : (u : Bool) → ltb room 2 ≡ u → (n ≤ room_for h paused xs (room - times_recorded h paused x) → length (records_of h paused (take n xs)) ≤ room - times_recorded h paused x) →
          length (replicate (times_recorded h paused x) x ++ records_of h paused (take n xs)) ≤ room
      go true e rest = let z : suc n ≤ 0 = rw (room_stops (x ∷ xs) room (ltb-true room 2 e)) at l in absurd (omega arith)
      go false e rest =
          let z : suc n ≤ 1 + room_for h paused xs (room - times_recorded h paused x) = rw (room_next (x ∷ xs) 0 room (omega arith) (ltb-false room 2 e)) at l in
          omega (arith, rest (omega arith), times_few h x paused, ltb-false room 2 e, length-append (replicate (times_recorded h paused x) x) (records_of h paused (take n xs)), length-replicate (times_recorded h paused x) x)

  -- the part of a run that is taken, as the code takes it
  pub part_fits : (xs : List ℕ) (room : ℕ) {m n : ℕ} {fit part : List ℕ} → m ≡ room_for h paused xs room → fit ≡ take m xs → n ≤ length fit → part ≡ take n fit →
      length (records_of h paused part) ≤ room
  part_fits xs room {m} {n} a b l p =
      let few : n ≤ m = omega (arith, ap length b, length-take-le m xs (omega (arith, a, room_le xs room))) in
      let e = p ∙ ap (take n) b ∙ take-take n m xs few in
      rw e (room_enough xs room n (omega arith))
