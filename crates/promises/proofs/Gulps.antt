-- NO. 2: a gulp is its single events, each accepted, and as long as it may be; its records stand at the front of the lent places. Assumes nothing.
use mathlib.Core.Path.{◌≡◌, refl, sym, ap, ◌∙◌}
use mathlib.Core.Bool.{Bool, true, false, cond}
use mathlib.Core.List.{List, [], ◌∷◌, ◌++◌, map}
use mathlib.Core.Logic.{◌⊎◌, inl, inr, ⊎_elim}
use Prim.Native.Nat.{ℕ, zero, suc, ◌+◌, ◌-◌, ◌≤◌, ◌<◌}
use native.Mathlib.Omega.{arith}
use lib.ListN.{length, take, replicate, length-append, length-replicate}
use lib.Seq.{sets}
use Rattle.std.specs.Prelude.{Ok}
use Rattle.reader.specs.Bytes.{all}
use Rattle.reader.proofs.Tests.{both, true_is_false}
use Rattle.language.specs.declared.Table.{Table}
use Rattle.accepted.specs.Accepted.{table_right}
use Rattle.process.specs.declared.State.{State}
use Rattle.process.specs.declared.Copies.{Copies}
use Rattle.process.specs.declared.RunRefusal.TheVariants.{Busy, BadTable}
use Rattle.process.specs.declared.Gulp.{Gulp}
use Rattle.process.specs.State.{busy}
use Rattle.events.specs.Recording.{times_recorded}
use Rattle.events.specs.Events.{refused, tick_event}
use Rattle.events.specs.Receiving.{ranges_right, byte_event}
use Rattle.events.specs.Gulps.{Gulping, stop, more, ticks_gulp, bytes_gulp, gulp_took, ticks_event, bytes_event, bytes_records, records_after}
use Rattle.events.proofs.Copying.{times_few}
use Rattle.events.proofs.Ranges.{ranges_stay}
use Rattle.runner.specs.Calls as calls
use Rattle.runner.specs.Calls.{Box, tick, byte, ticks, bytes, gulp, boxed, replies}
use Rattle.bounded.specs.Replies.{called, was_taken}
use Rattle.events.proofs.Gulping.{ticks_by, bytes_by}
use Rattle.running.proofs.GulpsAgree.{none_recorded}
use Rattle.promises.specs.Gulps.{box_after, records_in, replies_to, BytesAreSingle, TicksAreSingle, RecordsWrote, GulpsAreSingle}
use Rattle.promises.proofs.Wrote.{front_by, rest_by}

-- ---- on the state, the counts being as they are

module _ (t : Table) (counts : List ℕ) where
  -- what comes of some ticks is what single ticks leave
  pub record TicksCame (z : State) (n : ℕ) (g : Gulping State) : Type 0 where
    pub some : g.taken ≤ n
    pub box : boxed g.box counts ≡ box_after t (boxed z counts) (replicate g.taken tick)
    pub accepted : all was_taken (replies table_right t (boxed z counts) (replicate g.taken tick)) ≡ true
    pub longest : (g.taken ≡ n) ⊎ (busy g.box ≡ true)

  ticks_stop : (z : State) (n : ℕ) → (0 ≡ n) ⊎ (busy z ≡ true) → TicksCame z n (stop z)
  unfolding box_after calls.replies
  ticks_stop z n l = record { some = omega arith; box = refl; accepted = refl; longest = l }

  tick_taken_lem : (z : State) → busy z ≡ false → was_taken (called t tick (boxed z counts)).reply ≡ true
  unfolding calls.called tick_event was_taken
  tick_taken_lem z q = rw q

  ticks_more : (z : State) (n : ℕ) (rest : Gulping State) → busy z ≡ false → TicksCame (tick_event z).state n rest → TicksCame z (suc n) (more [] rest)
  unfolding box_after calls.replies calls.called
  ticks_more z n rest q i = record {
    some = omega (arith, i.some);
    box = i.box;
    accepted = both _ _ (tick_taken_lem z q) i.accepted;
    longest = ⊎_elim (λ e. inl (ap suc e)) inr i.longest;
  }

  pub ticks_came : (z : State) (n : ℕ) → busy z ≡ false → TicksCame z n (ticks_gulp z n)
  ticks_came = ticks_by busy (λ z. (tick_event z).state) TicksCame (λ z. ticks_stop z 0 (inl refl)) (λ z n u. ticks_stop z n (inr u)) ticks_more

  -- what comes of some bytes is what single bytes leave; and there are places for all that is recorded
  pub record BytesCame (z : State) (xs : List ℕ) (room : ℕ) (g : Gulping State) : Type 0 where
    pub some : g.taken ≤ length xs
    pub box : boxed g.box counts ≡ box_after t (boxed z counts) (map byte (take g.taken xs))
    pub accepted : all was_taken (replies_to t (boxed z counts) (take g.taken xs)) ≡ true
    pub records : g.records ≡ records_in (take g.taken xs) (replies_to t (boxed z counts) (take g.taken xs))
    pub places : (j : ℕ) → j < g.taken → length (records_in (take j xs) (replies_to t (boxed z counts) (take j xs))) + 2 ≤ room
    pub fits : length g.records ≤ room
    pub longest : (g.taken ≡ length xs) ⊎ ((busy g.box ≡ true) ⊎ (room < length g.records + 2))

  bytes_stop : (z : State) (xs : List ℕ) (room : ℕ) → (0 ≡ length xs) ⊎ ((busy z ≡ true) ⊎ (room < 2)) → BytesCame z xs room (stop z)
  unfolding box_after records_in calls.replies
  bytes_stop z xs room l = record {
    some = omega arith;
    box = refl;
    accepted = refl;
    records = refl;
    places = λ j u. absurd (omega arith);
    fits = omega arith;
    longest = l;
  }

  module _ (z : State) (x : ℕ) where
    abbrev alone : State
    alone = (byte_event t.pool t.heads z x).state

    -- a byte that is right is not refused at a quiet moment
    byte_taken_lem : ranges_right t.heads z ≡ true → busy z ≡ false → (byte_event t.pool t.heads z x).answer ≡ Ok (record { count = times_recorded t.heads z.paused x })
    unfolding byte_event
    byte_taken_lem r q = rw (r, q)

    module _ (c : Copies) (e : (byte_event t.pool t.heads z x).answer ≡ Ok c) where
      said_taken : was_taken (called t (byte x) (boxed z counts)).reply ≡ true
      unfolding calls.called was_taken
      said_taken = rw e

      -- it and then the others
      records_more : (ys : List ℕ) →
          records_in (x ∷ ys) (replies_to t (boxed z counts) (x ∷ ys)) ≡ replicate c.count x ++ records_in ys (replies_to t (boxed alone counts) ys)
      unfolding records_in calls.replies calls.called
      records_more ys = rw e

      long : (bs : List ℕ) → length (replicate c.count x ++ bs) ≡ c.count + length bs
      long bs = length-append (replicate c.count x) bs ∙ rw length-replicate

      module _ (xs : List ℕ) (room : ℕ) (rest : Gulping State) (i : BytesCame alone xs (room - c.count) rest) (l : 2 ≤ room) where
        places_more : (j : ℕ) → j < suc rest.taken → length (records_in (take j (x ∷ xs)) (replies_to t (boxed z counts) (take j (x ∷ xs)))) + 2 ≤ room
        unfolding records_in
        places_more zero u = l
        places_more (suc j) u =
            rw (records_more (take j xs)) (omega (arith, i.places j (omega arith), long (records_in (take j xs) (replies_to t (boxed alone counts) (take j xs)))))

        longest_more : (rest.taken ≡ length xs) ⊎ ((busy rest.box ≡ true) ⊎ (room - c.count < length rest.records + 2)) →
            (suc rest.taken ≡ suc (length xs)) ⊎ ((busy rest.box ≡ true) ⊎ (room < length (replicate c.count x ++ rest.records) + 2))
        longest_more (inl e) = inl (ap suc e)
        longest_more (inr (inl u)) = inr (inl u)
        longest_more (inr (inr u)) = inr (inr (omega (arith, long rest.records)))

        bytes_more : busy z ≡ false → ranges_right t.heads z ≡ true → BytesCame z (x ∷ xs) room (more (replicate c.count x) rest)
        unfolding box_after calls.replies calls.called
        bytes_more q r =
            let count : c.count ≡ times_recorded t.heads z.paused x = cc (byte_taken_lem r q) in
            record {
              some = omega (arith, i.some);
              box = i.box;
              accepted = both _ _ said_taken i.accepted;
              records = ap (λ (bs : List ℕ). replicate c.count x ++ bs) i.records ∙ sym (records_more (take rest.taken xs));
              places = places_more;
              fits = omega (arith, long rest.records, i.fits, times_few t.heads x z.paused);
              longest = longest_more i.longest;
            }

  -- 25 is never answered on the way: what is right stays right
  abbrev Comes : State → List ℕ → ℕ → Gulping State → Type 0
  Comes z xs room g = ranges_right t.heads z ≡ true → BytesCame z xs room g

  pub bytes_came : (z : State) (xs : List ℕ) (room : ℕ) → busy z ≡ false → Comes z xs room (bytes_gulp t.pool t.heads z xs room)
  bytes_came =
      bytes_by busy (λ x z. (byte_event t.pool t.heads z x).answer) (λ x z. (byte_event t.pool t.heads z x).state) Comes
      (λ z room r. bytes_stop z [] room (inl refl)) (λ z xs room u r. bytes_stop z xs room (inr (inl u))) (λ z xs room l r. bytes_stop z xs room (inr (inr l)))
      (λ z x xs room w q e r. true_is_false (cc (byte_taken_lem z x r q)))
      (λ z x xs room c rest q l e i r. bytes_more z x c e xs room rest (i (ranges_stay t.pool t.heads z x r)) l q r)

-- ---- as calls

-- what is told of a gulp
abbrev told : Gulping State → Gulp
told g = record { taken = g.taken; recorded = length g.records }

module _ (t : Table) (b : Box) where
  module _ (n : ℕ) where
    ticks_after : busy b.state ≡ false → (called t (ticks n) b).box ≡ boxed (ticks_gulp b.state n).box b.counts
    unfolding calls.called ticks_event
    ticks_after q = rw q

    ticks_single : busy b.state ≡ false → TicksAreSingle t b n (told (ticks_gulp b.state n)) []
    ticks_single q =
        let i = ticks_came t b.counts b.state n q in
        record {
          some = i.some;
          box = ticks_after q ∙ i.box;
          accepted = i.accepted;
          records = refl;
          told = ap length (none_recorded b.state n q);
          longest = ⊎_elim inl (λ u. inr (ap (λ (y : Box). busy y.state) (ticks_after q) ∙ u)) i.longest;
        }

    of_ticks_lem : (g : Gulp) (records : List ℕ) → (called t (ticks n) b).reply ≡ gulp (Ok g) records → TicksAreSingle t b n g records
    unfolding calls.called ticks_event
    of_ticks_lem g records = go (busy b.state) refl
      where
        go : (u : Bool) → busy b.state ≡ u → gulp (cond u (refused b.state Busy) (gulp_took (ticks_gulp b.state n))).answer [] ≡ gulp (Ok g) records → TicksAreSingle t b n g records
        go true q e = true_is_false (cc)
        go false q e =
            let is : g ≡ told (ticks_gulp b.state n) = cc in
            let none : records ≡ [] = cc in
            rw (is, none) (ticks_single q)

  module _ (run : List ℕ) (room : ℕ) where
    abbrev heard : Gulping State
    heard = bytes_gulp t.pool t.heads b.state run room

    -- a run that is not refused
    record Accepted (g : Gulp) (records : List ℕ) : Type 0 where
      right : ranges_right t.heads b.state ≡ true
      quiet : busy b.state ≡ false
      is : g ≡ told heard
      wrote : records ≡ heard.records

    is_accepted_lem : (g : Gulp) (records : List ℕ) → (called t (bytes run room) b).reply ≡ gulp (Ok g) records → Accepted g records
    unfolding calls.called bytes_event bytes_records
    is_accepted_lem g records = go (ranges_right t.heads b.state) (busy b.state) refl refl
      where
        go : (right ready : Bool) → ranges_right t.heads b.state ≡ right → busy b.state ≡ ready →
            gulp (cond right (cond ready (refused b.state Busy) (gulp_took heard)) (refused b.state BadTable)).answer (cond right (cond ready [] heard.records) []) ≡ gulp (Ok g) records →
            Accepted g records
        go true true r q e = true_is_false (cc)
        go true false r q e = record { right = r; quiet = q; is = cc; wrote = cc }
        go false ready r q e = true_is_false (cc)

    module _ (r : ranges_right t.heads b.state ≡ true) (q : busy b.state ≡ false) where
      came : BytesCame t b.counts b.state run room heard
      came = bytes_came t b.counts b.state run room q r

      after : (called t (bytes run room) b).box ≡ boxed heard.box b.counts
      unfolding calls.called bytes_event
      after = rw (r, q)

      bytes_single : BytesAreSingle t b run room (told heard) heard.records
      bytes_single = record {
        some = came.some;
        box = after ∙ came.box;
        accepted = came.accepted;
        records = came.records;
        told = refl;
        places = came.places;
        longest = ⊎_elim inl (⊎_elim (λ u. inr (inl (ap (λ (y : Box). busy y.state) after ∙ u))) (λ l. inr (inr l))) came.longest;
      }

    of_bytes_lem : (g : Gulp) (records : List ℕ) → (called t (bytes run room) b).reply ≡ gulp (Ok g) records → BytesAreSingle t b run room g records
    of_bytes_lem g records e = let a = is_accepted_lem g records e in rw (a.is, a.wrote) (bytes_single a.right a.quiet)

  module _ (run out : List ℕ) (g : Gulp) (records : List ℕ) where
    wrote_after : Accepted run (length out) g records → records_after t.pool t.heads b.state run out ≡ sets out 0 records
    unfolding records_after bytes_records
    wrote_after a = rw (a.right, a.quiet, a.wrote)

    bytes_wrote : (called t (bytes run (length out)) b).reply ≡ gulp (Ok g) records → RecordsWrote t b run out records
    bytes_wrote e =
        let a = is_accepted_lem run (length out) g records e in
        let few : length records ≤ length out = rw a.wrote (came run (length out) a.right a.quiet).fits in
        record { front = rw (wrote_after a) (front_by records out true (λ u. few)); rest = rw (wrote_after a) (rest_by records out true (λ u. few)) }

-- THE THEOREM
pub gulps_are_single : GulpsAreSingle
gulps_are_single = record { of_bytes = of_bytes_lem; of_ticks = of_ticks_lem; right = ranges_stay; wrote = bytes_wrote }
