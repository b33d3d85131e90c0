-- A gulp in one go: it takes as many single events as all processes together reach, and is what those make of each. Assumes nothing.
use mathlib.Core.Path.{◌≡◌, refl, sym, ap, ◌∙◌}
use mathlib.Core.Bool.{Bool, true, false, cond}
use mathlib.Core.List.{List, [], ◌∷◌, ◌++◌, map}
use Prim.Native.Nat.{ℕ, suc, ◌-◌, ◌≤◌}
use native.Mathlib.Omega.{arith}
use lib.Dec.{leb}
use lib.ListN.{length, take, replicate}
use lib.Seq.{sets}
use borrow.Author.Tests.{le-ltb}
use Rattle.std.specs.Prelude.{Ok, Err}
use Rattle.reader.specs.Bytes.{all}
use Rattle.reader.proofs.Tests.{true_is_false, both_right}
use Rattle.language.specs.declared.Heads.{Heads}
use Rattle.language.specs.Limits.{omit_limit}
use Rattle.process.specs.declared.Process.{Process}
use Rattle.process.specs.declared.State.{State}
use Rattle.process.specs.declared.RunRefusal.{RunRefusal}
use Rattle.process.specs.declared.RunRefusal.TheVariants.{Busy, BadTable}
use Rattle.process.specs.declared.Event.{Event}
use Rattle.process.specs.declared.Copies.{Copies}
use Rattle.process.specs.Answers.{Received}
use Rattle.process.specs.Waiting.{ready, byte_taken, range_right}
use Rattle.process.specs.State.{any, busy, with_processes}
use Rattle.events.specs.Events.{refused, tick_event}
use Rattle.events.specs.Recording.{times_recorded}
use Rattle.events.specs.Receiving.{ranges_right, answered_with, byte_event}
use Rattle.events.specs.Gulps.{Gulping, stop, more, ticks_gulp, bytes_gulp, ticks_event, bytes_event, bytes_records, records_after}
use Rattle.events.specs.Inside.Passing.{through, reach, each, ticks_of, tick_taken, ticks_on, ticks_reach, bytes_on, reach_all, records_of, room_for}
use Rattle.events.proofs.EventCases.{tick_takes}
use Rattle.events.proofs.ByteCases.{byte_takes}
use Rattle.events.proofs.Ranges.{ranges_stay}
use Rattle.events.proofs.Reach.{through_each}
use Rattle.events.proofs.Records.{room_stops}
use Rattle.events.proofs.Gulping.{ticks_by, bytes_by}

-- what came of a gulp that left these processes
abbrev came : State → List Process → ℕ → List ℕ → Gulping State
came s ps n bs = record { box = with_processes s ps; taken = n; records = bs }

not_busy : (s : State) → busy s ≡ false → any ready s.processes ≡ false
unfolding busy
not_busy s q = q

-- ---- ticks

-- the processes after as many ticks as they reach
abbrev ticked : State → ℕ → Gulping State
ticked s n = came s (through (each tick_taken) (ticks_of (ticks_reach n s.processes)) s.processes) (ticks_reach n s.processes) []

abbrev Ticks : State → ℕ → Gulping State → Type 0
Ticks s n g = (busy s ≡ true → g ≡ stop s) × (busy s ≡ false → g ≡ ticked s n)

one_tick : (s : State) (n : ℕ) (rest : Gulping State) → busy s ≡ false → Ticks (tick_event s).state n rest → more [] rest ≡ ticked s (suc n)
unfolding reach through busy
one_tick s n rest q r = go (any ready ps) refl
  where
    ps : List Process
    ps = each tick_taken 0 s.processes

    after : (tick_event s).state ≡ with_processes s (each tick_taken 0 s.processes)
    after = ap (λ (e : Event (Unit {0})). e.state) (tick_takes s (not_busy s q))

    go : (u : Bool) → any ready (each tick_taken 0 s.processes) ≡ u → more [] rest ≡ ticked s (suc n)
    go true e = rw e (ap (more []) (r.0 (ap busy after ∙ e) ∙ ap stop after))
    go false e = rw e (ap (more []) (r.1 (ap busy after ∙ e) ∙ ap (λ (z : State). ticked z n) after))

ticks_gulp_lem : (s : State) (n : ℕ) → busy s ≡ false → ticks_gulp s n ≡ ticked s n
unfolding reach through
ticks_gulp_lem s n q =
    (ticks_by busy (λ (z : State). (tick_event z).state) Ticks (λ z. (λ u. refl, λ u. refl)) (λ z m u. (λ v. refl, λ v. true_is_false (sym u ∙ v)))
    (λ z m rest u r. (λ v. true_is_false (sym v ∙ u), λ v. one_tick z m rest u r)) s n q).1 q

pub ticks_busy : (s : State) (n : ℕ) → any ready s.processes ≡ true → refused s Busy ≡ ticks_event s n
unfolding ticks_event busy
ticks_busy s n q = rw q

pub ticks_take : (s : State) (n : ℕ) {k : ℕ} {ps : List Process} → any ready s.processes ≡ false → k ≡ ticks_reach n s.processes → ps ≡ map (ticks_on k) s.processes →
    record { state = with_processes s ps; answer = Ok (record { taken = k; recorded = 0 }) } ≡ ticks_event s n
unfolding ticks_event busy
ticks_take s n {k} {ps} q e f =
    rw (q, ticks_gulp_lem s n q)
    (rw (f, e, ← through_each tick_taken (ticks_of (ticks_reach n s.processes)) s.processes))

-- ---- bytes

module _ (pool : List ℕ) (h : Heads) where
  -- the bytes that there is room for, and how many of them the processes reach
  abbrev pub fitting : State → List ℕ → ℕ → List ℕ
  fitting s xs room = take (room_for h s.paused xs room) xs

  abbrev many : State → List ℕ → ℕ → ℕ
  many s xs room = reach_all pool (fitting s xs room) s.processes

  abbrev taken : State → List ℕ → ℕ → Gulping State
  taken s xs room =
      let ys = take (many s xs room) (fitting s xs room) in
      came s (through (each (byte_taken pool)) ys s.processes) (many s xs room) (records_of h s.paused ys)

  abbrev Bytes : State → List ℕ → ℕ → Gulping State → Type 0
  Bytes s xs room g = (busy s ≡ true → g ≡ stop s) × (ranges_right h s ≡ true → busy s ≡ false → g ≡ taken s xs room)

  -- a byte that is taken
  byte_is_lem : (s : State) (x : ℕ) → ranges_right h s ≡ true → busy s ≡ false →
      byte_event pool h s x ≡ answered_with (with_processes s (each (byte_taken pool) x s.processes)) (Ok (record { count = times_recorded h s.paused x }))
  byte_is_lem s x r q = sym (byte_takes pool h s x r (not_busy s q))

  one_byte : (s : State) (x : ℕ) (xs : List ℕ) (room : ℕ) (c : Copies) (rest : Gulping State) → ranges_right h s ≡ true → busy s ≡ false → 2 ≤ room →
      (byte_event pool h s x).answer ≡ Ok c → Bytes (byte_event pool h s x).state xs (room - c.count) rest →
      more (replicate c.count x) rest ≡ taken s (x ∷ xs) room
  unfolding reach through room_for records_of busy
  one_byte s x xs room c rest right q l e r = rw (le-ltb room 2 l, copies) (go (any ready (each (byte_taken pool) x s.processes)) refl)
    where
      after : (byte_event pool h s x).state ≡ with_processes s (each (byte_taken pool) x s.processes)
      after = ap (λ (z : Event Copies). z.state) (byte_is_lem s x right q)

      answered : ◌≡◌ {A = Received} (Ok c) (Ok (record { count = times_recorded h s.paused x }))
      answered = sym e ∙ ap (λ (z : Event Copies). z.answer) (byte_is_lem s x right q)

      copies : c.count ≡ times_recorded h s.paused x
      copies = cc answered

      ranges : ranges_right h (byte_event pool h s x).state ≡ true
      ranges = ranges_stay pool h s x right

      go : (u : Bool) → any ready (each (byte_taken pool) x s.processes) ≡ u →
          more (replicate (times_recorded h s.paused x) x) rest
          ≡ came s
          (through (each (byte_taken pool)) (x ∷ take (cond u 0 (many (with_processes s (each (byte_taken pool) x s.processes)) xs (room - times_recorded h s.paused x))) (fitting s xs (room - times_recorded h s.paused x))) s.processes)
          (suc (cond u 0 (many (with_processes s (each (byte_taken pool) x s.processes)) xs (room - times_recorded h s.paused x))))
          (replicate (times_recorded h s.paused x) x ++ records_of h s.paused (take (cond u 0 (many (with_processes s (each (byte_taken pool) x s.processes)) xs (room - times_recorded h s.paused x))) (fitting s xs (room - times_recorded h s.paused x))))
      go true u = ap (more (replicate (times_recorded h s.paused x) x)) (r.0 (ap busy after ∙ u) ∙ ap stop after)
      go false u =
          ap (more (replicate (times_recorded h s.paused x) x))
          (r.1 ranges (ap busy after ∙ u) ∙ rw (after, copies))

  bytes_gulp_lem : (s : State) (xs : List ℕ) (room : ℕ) → ranges_right h s ≡ true → busy s ≡ false → bytes_gulp pool h s xs room ≡ taken s xs room
  unfolding reach through room_for records_of
  bytes_gulp_lem s xs room right q =
      (bytes_by busy (λ x (z : State). (byte_event pool h z x).answer) (λ x (z : State). (byte_event pool h z x).state) Bytes
      (λ z n. (λ u. refl, λ u v. refl))
      (λ z ys n u. (λ v. refl, λ v w. true_is_false (sym u ∙ w)))
      (λ z ys n l. (λ v. refl, λ v w. rw (room_stops h z.paused ys n l)))
      (λ z x ys n r u e. (λ v. refl, λ v w. other z x r (sym e ∙ ap (λ (y : Event Copies). y.answer) (byte_is_lem z x v w))))
      (λ z x ys n c rest u l e r. (λ v. true_is_false (sym v ∙ u), λ v w. one_byte z x ys n c rest v w l e r))
      s xs room q).1 right q
    where
      other : {A : Type 0} (z : State) (x : ℕ) (r : RunRefusal) {c : Copies} → ◌≡◌ {A = Received} (Err r) (Ok c) → A
      other z x r e = let n : ◌≡◌ {A = ℕ} 0 1 = cc in absurd (omega arith)

  module _ (s : State) (xs : List ℕ) where
    pub bytes_wrong : (out : List ℕ) → ranges_right h s ≡ false → (refused s BadTable ≡ bytes_event pool h s xs (length out)) × (out ≡ records_after pool h s xs out)
    unfolding bytes_event records_after bytes_records
    bytes_wrong out e = rw e (refl, refl)

    module _ (right : ranges_right h s ≡ true) where
      pub bytes_busy : (out : List ℕ) → any ready s.processes ≡ true → (refused s Busy ≡ bytes_event pool h s xs (length out)) × (out ≡ records_after pool h s xs out)
      unfolding bytes_event records_after bytes_records busy
      bytes_busy out q = rw (right, q) (refl, refl)

      bytes_take : (out : List ℕ) {n k : ℕ} {ps : List Process} → any ready s.processes ≡ false →
          n ≡ reach_all pool (fitting s xs (length out)) s.processes → ps ≡ map (bytes_on pool (take n (fitting s xs (length out)))) s.processes →
          k ≡ length (records_of h s.paused (take n (fitting s xs (length out)))) →
          (record { state = with_processes s ps; answer = Ok (record { taken = n; recorded = k }) } ≡ bytes_event pool h s xs (length out))
          × (sets out 0 (records_of h s.paused (take n (fitting s xs (length out)))) ≡ records_after pool h s xs out)
      unfolding bytes_event records_after bytes_records busy
      bytes_take out q e f g =
          rw (right, q, bytes_gulp_lem s xs (length out) right q)
          (rw (f, g, e, ← through_each (byte_taken pool) (take (many s xs (length out)) (fitting s xs (length out))) s.processes) (refl, refl))

      -- as the code has it: the bytes that there is room for, and the part of them that is taken
      pub bytes_took : (out : List ℕ) {m n k : ℕ} {fit part after : List ℕ} {ps : List Process} → any ready s.processes ≡ false → m ≡ room_for h s.paused xs (length out) →
          fit ≡ take m xs → n ≡ reach_all pool fit s.processes → ps ≡ map (bytes_on pool (take n fit)) s.processes → part ≡ take n fit →
          k ≡ length (records_of h s.paused part) → after ≡ sets out 0 (records_of h s.paused part) →
          (record { state = with_processes s ps; answer = Ok (record { taken = n; recorded = k }) } ≡ bytes_event pool h s xs (length out)) × (after ≡ records_after pool h s xs out)
      bytes_took out {n = n} q a b e f p g o =
          let fits = b ∙ ap (λ (i : ℕ). take i xs) a in
          let parts = p ∙ ap (take n) fits in
          let r =
          bytes_take out q (e ∙ ap (λ (l : List ℕ). reach_all pool l s.processes) fits) (f ∙ ap (λ (l : List ℕ). map (bytes_on pool (take n l)) s.processes) fits)
          (g ∙ ap (λ (l : List ℕ). length (records_of h s.paused l)) parts)
          in
          (r.0, o ∙ ap (λ (l : List ℕ). sets out 0 (records_of h s.paused l)) parts ∙ r.1)

-- each data range lies within the pool
pub ranges_all : (h : Heads) (s : State) → ranges_right h s ≡ true → all range_right s.processes ≡ true
unfolding ranges_right
ranges_all h s r = both_right (leb h.omits omit_limit) (all range_right s.processes) r
