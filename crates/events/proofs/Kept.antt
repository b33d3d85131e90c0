-- The links that a gulp keeps: none in a cleared table, so many as its first place tells, and those of each wait apart from those of the others. Assumes
-- nothing.
use mathlib.Core.Path.{◌≡◌, refl, sym, ap, ap₂, ◌∙◌}
use mathlib.Core.Bool.{Bool, true, false, cond}
use mathlib.Core.List.{List, [], ◌∷◌, ◌++◌}
use Prim.Native.Nat.{ℕ, zero, suc, ◌+◌, ◌-◌, ◌≤◌, ◌<◌}
use native.Mathlib.Numerals.{add-one}
use native.Mathlib.Omega.{arith}
use lib.Dec.{ltb}
use lib.ListN.{length, get_or, set, take, drop, replicate, length-append, length-drop, take-append-drop}
use lib.Seq.{length-take-le, take-append-le, drop-append-le, take_at, drop_at, drop-drop, get_or-set_same, get_or-set_other}
use types.Run.{OneOf, miss}
use denote.Enum.Declared.{tag_of}
use borrow.Author.Tests.{ltb-false, lt-ltb, le-ltb}
use Rattle.process.specs.declared.Progress.{Progress}
use Rattle.process.specs.declared.Wait.{Wait}
use Rattle.process.specs.declared.Wait.TheVariants.{Ready, Over, Ticks, Bytes, Data, ClockValue, Signal}
use Rattle.process.specs.declared.Process.{Process}
use Rattle.process.specs.contracts.Wait.{the_type}
use Rattle.events.specs.Inside.Links.{Linked}
use Rattle.events.specs.Inside.Kept.{Kept, data_of, places_for, KeptFrom, begins}
use Rattle.events.proofs.Links.{link_first}

-- ---- of one wait

-- none in a cleared table: that of 1 is 0
zeros_kept : {d ls : List ℕ} → ((j : ℕ) → get_or ls j 0 ≡ 0) → Kept d ls
zeros_kept {d} {ls} z = record { at = λ j some h. z j ∙ sym (link_first d j (omega (arith, z 0))) }

zeros : (n j : ℕ) → get_or {A = ℕ} (replicate n 0) j 0 ≡ 0
zeros zero j = refl
zeros (suc n) zero = refl
zeros (suc n) (suc j) = zeros n j

pub cleared : (d : List ℕ) (n : ℕ) → Kept d (replicate n 0)
cleared d n = zeros_kept (zeros n)

-- so many as are told at 0
pub told : {d ls : List ℕ} {i : ℕ} → 0 < i → Linked d ls i → Linked d (set ls 0 (i - 1)) i
told {d} {ls} {i} some w = record { at = λ j s h. get_or-set_other ls 0 j (i - 1) 0 (λ e. omega arith) ∙ w.at j s h }

pub told_kept : {d ls : List ℕ} {i : ℕ} → 0 < i → 0 < length ls → Linked d ls i → Kept d (set ls 0 (i - 1))
told_kept {d} {ls} {i} some room w =
    let n : get_or (set ls 0 (i - 1)) 0 0 + 1 ≡ i = omega (arith, get_or-set_same ls 0 (i - 1) 0 room) in
    rw n (told some w)

-- ---- a part of a table that is put back

abbrev pub put : {A : Type 0} → List A → List A → ℕ → ℕ → List A
put xs ys a k = take a xs ++ (ys ++ drop k (drop a xs))

module _ {A : Type 0} (xs ys : List A) (a k : ℕ) (h : a + k ≤ length xs) (e : length ys ≡ k) where
  front : length (take a xs) ≡ a
  front = length-take-le a xs (omega arith)

  put_length : length (put xs ys a k) ≡ length xs
  put_length =
      omega (arith, length-append (take a xs) (ys ++ drop k (drop a xs)), front, length-append ys (drop k (drop a xs)), length-drop k (drop a xs), length-drop a xs)

  put_here : take k (drop a (put xs ys a k)) ≡ ys
  put_here = rw (drop_at (take a xs) (ys ++ drop k (drop a xs)) a front) (take_at ys (drop k (drop a xs)) k e)

  -- what stands before it
  put_before : (s n : ℕ) → s + n ≤ a → take n (drop s (put xs ys a k)) ≡ take n (drop s xs)
  put_before s n l = before _ ∙ sym (before (drop a xs)) ∙ ap (λ (t : List A). take n (drop s t)) (take-append-drop a xs)
    where
      before : (zs : List A) → take n (drop s (take a xs ++ zs)) ≡ take n (drop s (take a xs))
      before zs =
          rw (drop-append-le s (take a xs) zs (omega (arith, front)))
          (take-append-le n (drop s (take a xs)) zs (omega (arith, length-drop s (take a xs), front)))

  -- and behind it
  put_after : (s : ℕ) → a + k ≤ s → drop s (put xs ys a k) ≡ drop s xs
  put_after s l =
      let t : ℕ = s - (a + k) in
      let n : s ≡ a + (k + t) = omega arith in
      rw n
      (sym (drop-drop (k + t) a (put xs ys a k))
      ∙ ap (drop (k + t)) (drop_at (take a xs) (ys ++ drop k (drop a xs)) a front)
      ∙ sym (drop-drop t k (ys ++ drop k (drop a xs)))
      ∙ ap (drop t) (drop_at ys (drop k (drop a xs)) k e)
      ∙ drop-drop t k (drop a xs)
      ∙ drop-drop (k + t) a xs)

-- ---- of all waits

places_le : (w : Wait) (left : ℕ) → places_for w left ≤ left
unfolding places_for
places_le Ready left = omega arith
places_le Over left = omega arith
places_le (Ticks n) left = omega arith
places_le (Bytes n) left = omega arith
places_le (Data m) left = go (ltb left m.count) refl
  where
    go : (u : Bool) → ltb left m.count ≡ u → cond u 0 m.count ≤ left
    go true e = omega arith
    go false e = ltb-false left m.count e
places_le (ClockValue c) left = omega arith
places_le (Signal l) left = omega arith

pub places_few : (w : Wait) {left n : ℕ} → n ≡ places_for w left → n ≤ left
places_few w {left} e = omega (arith, e, places_le w left)

module _ (m : Progress) (left : ℕ) {n : ℕ} (e : n ≡ m.count) where
  pub places_short : left < n → 0 ≡ places_for (Data m) left
  unfolding places_for
  places_short h = rw (lt-ltb left m.count (omega (arith, e)))

  pub places_there : n ≤ left → n ≡ places_for (Data m) left
  unfolding places_for
  places_there h = rw (le-ltb left m.count (omega (arith, e))) e

-- the waits that are not for data, by their tags: the code's last arm
abbrev others : List ℕ
others = 0 ∷ 1 ∷ 2 ∷ 3 ∷ 5 ∷ 6 ∷ []

pub places_none : (w : Wait) (left : ℕ) → OneOf others (tag_of the_type w) → 0 ≡ places_for w left
unfolding places_for
places_none Ready left h = refl
places_none Over left h = refl
places_none (Ticks n) left h = refl
places_none (Bytes n) left h = refl
places_none (Data m) left h = absurd (miss others 4 tt h)
places_none (ClockValue c) left h = refl
places_none (Signal l) left h = refl

pub all_cleared : (pool : List ℕ) (n from : ℕ) (ps : List Process) → KeptFrom pool (replicate n 0) from ps
all_cleared pool n from [] = tt
all_cleared pool n from (p ∷ ps) =
    let k = places_for p.wait (length {A = ℕ} (replicate n 0) - from) in
    (zeros_kept (part k from (replicate n 0) (zeros n)), all_cleared pool n (from + k) ps)
  where
    taken : (k : ℕ) (ls : List ℕ) → ((j : ℕ) → get_or ls j 0 ≡ 0) → (j : ℕ) → get_or (take k ls) j 0 ≡ 0
    taken zero ls z j = refl
    taken (suc k) [] z j = refl
    taken (suc k) (x ∷ ls) z zero = z 0
    taken (suc k) (x ∷ ls) z (suc j) = taken k ls (λ i. z (suc i)) j

    part : (k s : ℕ) (ls : List ℕ) → ((j : ℕ) → get_or ls j 0 ≡ 0) → (j : ℕ) → get_or (take k (drop s ls)) j 0 ≡ 0
    part k zero ls z j = taken k ls z j
    part k (suc s) [] z j = taken k [] z j
    part k (suc s) (x ∷ ls) z j = part k s ls (λ i. z (suc i)) j

module _ (most : ℕ) where
  pub begins_first : (from : ℕ) (ps : List Process) → from ≡ begins most from ps 0
  unfolding begins
  begins_first from ps = refl

  begins_from : (from : ℕ) (ps : List Process) (i : ℕ) → from ≤ begins most from ps i
  unfolding begins
  begins_from from ps zero = omega arith
  begins_from from [] (suc i) = omega arith
  begins_from from (p ∷ ps) (suc i) = omega (arith, begins_from (from + places_for p.wait (most - from)) ps i)

  begins_within : (from : ℕ) (ps : List Process) (i : ℕ) → from ≤ most → begins most from ps i ≤ most
  unfolding begins
  begins_within from ps zero h = h
  begins_within from [] (suc i) h = h
  begins_within from (p ∷ ps) (suc i) h = begins_within (from + places_for p.wait (most - from)) ps i (omega (arith, places_le p.wait (most - from)))

  -- those of the next begin where those of one end
  begins_next : (from : ℕ) (ps : List Process) (i : ℕ) (d : Process) → i < length ps →
      begins most from ps (suc i) ≡ begins most from ps i + places_for (get_or ps i d).wait (most - begins most from ps i)
  unfolding begins
  begins_next from [] i d h = absurd (omega arith)
  begins_next from (p ∷ ps) zero d h = refl
  begins_next from (p ∷ ps) (suc i) d h = begins_next (from + places_for p.wait (most - from)) ps i d (omega arith)

module _ (pool : List ℕ) where
  -- those of process i
  pub kept_at : (ls : List ℕ) (from : ℕ) (ps : List Process) (i : ℕ) (d : Process) {b n : ℕ} → i < length ps → b ≡ begins (length ls) from ps i →
      n ≡ places_for (get_or ps i d).wait (length ls - b) → KeptFrom pool ls from ps → Kept (data_of pool (get_or ps i d).wait) (take n (drop b ls))
  unfolding begins
  kept_at ls from [] i d h e f w = absurd (omega arith)
  kept_at ls from (p ∷ ps) zero d h e f w = rw (f, e) w.0
  kept_at ls from (p ∷ ps) (suc i) d h e f w = kept_at ls (from + places_for p.wait (length ls - from)) ps i d (omega arith) e f w.1

  -- a process, and those behind it
  kept_one : (ls : List ℕ) (from n : ℕ) (p : Process) (ps : List Process) → places_for p.wait (length ls - from) ≡ n →
      Kept (data_of pool p.wait) (take n (drop from ls)) → KeptFrom pool ls (from + n) ps → KeptFrom pool ls from (p ∷ ps)
  kept_one ls from n p ps e u v = rw e (u, v)

  module _ (xs ys : List ℕ) (a k : ℕ) (h : a + k ≤ length xs) (e : length ys ≡ k) where
    abbrev after : List ℕ
    after = put xs ys a k

    same_places : (w : Wait) (from : ℕ) → places_for w (length after - from) ≡ places_for w (length xs - from)
    same_places w from = ap (λ (n : ℕ). places_for w (n - from)) (put_length xs ys a k h e)

    -- those behind the part
    later_stay : (from : ℕ) (ps : List Process) → a + k ≤ from → KeptFrom pool xs from ps → KeptFrom pool after from ps
    later_stay from [] l w = tt
    later_stay from (p ∷ ps) l w =
        let n = places_for p.wait (length xs - from) in
        kept_one after from n p ps (same_places p.wait from) (rw (put_after xs ys a k h e from l) w.0) (later_stay (from + n) ps (omega arith) w.1)

    -- those of process i are put back, and those of no other are touched
    kept_put : (from : ℕ) (ps : List Process) (i : ℕ) (d : Process) → i < length ps → a ≡ begins (length xs) from ps i →
        k ≡ places_for (get_or ps i d).wait (length xs - a) → Kept (data_of pool (get_or ps i d).wait) ys → KeptFrom pool xs from ps → KeptFrom pool after from ps
    unfolding begins
    kept_put from [] i d l f g v w = absurd (omega arith)
    kept_put from (p ∷ ps) zero d l f g v w =
        let here : places_for p.wait (length xs - from) ≡ k = ap (λ (b : ℕ). places_for p.wait (length xs - b)) (sym f) ∙ sym g in
        let mine : take k (drop from after) ≡ ys = ap (λ (b : ℕ). take k (drop b after)) (sym f) ∙ put_here xs ys a k h e in
        kept_one after from k p ps (same_places p.wait from ∙ here) (rw mine v) (later_stay (from + k) ps (omega (arith, f)) (rw here at w.1))
    kept_put from (p ∷ ps) (suc i) d l f g v w =
        let n = places_for p.wait (length xs - from) in
        let before : from + n ≤ a = omega (arith, f, begins_from (length xs) (from + n) ps i) in
        kept_one after from n p ps (same_places p.wait from) (rw (put_before xs ys a k h e from n before) w.0) (kept_put (from + n) ps i d (omega arith) f g v w.1)

-- a turn of the loop over the processes: the links of process i have been used, and those of the next begin behind them
module _ (pool xs ys : List ℕ) (ps : List Process) (i : ℕ) (d : Process) {a n k : ℕ} (h : i < length ps) (from : a ≡ begins (length xs) 0 ps i)
    (places : n ≡ places_for (get_or ps i d).wait (length xs - a)) (e : k ≡ n) (sized : length ys ≡ length (take k (drop a xs))) where
  inside : a ≤ length xs
  inside = omega (arith, from, begins_within (length xs) 0 ps i (omega arith))

  room : a + k ≤ length xs
  room = omega (arith, e, places_few (get_or ps i d).wait places, inside)

  long : length ys ≡ k
  long = sized ∙ length-take-le k (drop a xs) (omega (arith, length-drop a xs, room))

  pub turn : Kept (data_of pool (get_or ps i d).wait) ys → KeptFrom pool xs 0 ps →
      (let after = put xs ys a k in
      (a + n ≡ begins (length after) 0 ps (i + 1)) × (a + n ≤ length after) × (length after ≡ length xs) × KeptFrom pool after 0 ps)
  turn v w =
      let same = put_length xs ys a k room long in (
        rw (same, add-one i, begins_next (length xs) 0 ps i d h)
            (ap₂ ◌+◌ from (places ∙ ap (λ (b : ℕ). places_for (get_or ps i d).wait (length xs - b)) from)),
        omega (arith, same, e, room),
        same,
        kept_put pool xs ys a k room long 0 ps i d h from (e ∙ places) v w,
      )
