-- A gulp does to a script's box what the single events that it took do: to the waits, to what is recorded, and to nothing else. Assumes nothing.
use mathlib.Core.Path.{◌≡◌, refl, sym, ap₂, ◌∙◌}
use mathlib.Core.Bool.{false}
use mathlib.Core.List.{List, [], ◌∷◌, ◌++◌, map, map-map, map-id}
use Prim.Native.Nat.{ℕ}
use native.Mathlib.Omega.{arith}
use lib.ListN.{length, take, replicate}
use Rattle.std.specs.Prelude.{Ok, Err}
use Rattle.language.specs.Script.{Script}
use Rattle.process.specs.declared.Copies.{Copies}
use Rattle.process.specs.declared.RunRefusal.TheVariants.{Busy}
use Rattle.events.specs.Gulps.{Gulping, stop, more, ticks_from, bytes_from}
use Rattle.runner.specs.Calls.{Call, tick, byte, gulp}
use Rattle.events.proofs.Gulping.{ticks_by, bytes_by}
use Rattle.running.specs.Running.{Box, busy, Called, times_recorded, waiting, all_waiting, having, tick_box, byte_answer, byte_box}
use Rattle.running.specs.Waits.{event_on, since}
use Rattle.running.specs.Called.{records_of}

-- the two ways in which a gulp is answered: 21, and what came of it
abbrev pub refuses_gulp : Box → Called
refuses_gulp b = record { box = b; reply = gulp (Err Busy) [] }

abbrev pub takes_gulp : Gulping Box → Called
takes_gulp g = record { box = g.box; reply = gulp (Ok (record { taken = g.taken; recorded = length g.records })) g.records }

-- what came of a box is what these single events make of it
pub record Gulped (b : Box) (es : List Call) (g : Gulping Box) : Type 0 where
  pub none : g.taken ≡ 0 → g.box ≡ b
  pub acts : g.box.processes ≡ map (waiting (since es)) b.processes
  pub paused : g.box.paused ≡ b.paused

stopped : (b : Box) → Gulped b [] (stop b)
unfolding since
stopped b = record { none = λ e. refl; acts = sym (map-id b.processes); paused = refl }

-- an event that was taken, before the others
stepped : (b : Box) (e : Call) (bs : List ℕ) (es : List Call) (g : Gulping Box) → Gulped (having (all_waiting (event_on e) b) b) es g → Gulped b (e ∷ es) (more bs g)
unfolding since
stepped b e bs es g h = record {
  none = λ z. absurd (omega arith);
  acts = h.acts ∙ map-map (waiting (since es)) (waiting (event_on e)) b.processes;
  paused = h.paused;
}

-- ---- ticks

pub ticks_gulped : (b : Box) (n : ℕ) → busy b ≡ false → Gulped b (replicate (ticks_from busy tick_box b n).taken tick) (ticks_from busy tick_box b n)
ticks_gulped =
    ticks_by busy tick_box (λ b n g. Gulped b (replicate g.taken tick) g) stopped (λ b n e. stopped b)
    (λ b n g i h. stepped b tick [] (replicate g.taken tick) g (rw i at h))

-- ---- a run of bytes

module _ (s : Script) where
  -- what comes of them
  abbrev pub came : Box → List ℕ → ℕ → Gulping Box
  came = bytes_from busy (byte_answer s) byte_box

  pub bytes_gulped : (b : Box) (run : List ℕ) (room : ℕ) → busy b ≡ false → Gulped b (map byte (take (came b run room).taken run)) (came b run room)
  bytes_gulped =
      bytes_by busy (byte_answer s) byte_box (λ b xs room g. Gulped b (map byte (take g.taken xs)) g) (λ b room. stopped b) (λ b xs room e. stopped b)
      (λ b xs room l. stopped b) (λ b x xs room r i e. stopped b)
      (λ b x xs room c g i l e h. stepped b (byte x) (replicate c.count x) (map byte (take g.taken xs)) g (rw i at h))

  -- how often one was recorded, by its answer
  count_is : (b : Box) (x : ℕ) (c : Copies) → busy b ≡ false → byte_answer s x b ≡ Ok c → c.count ≡ times_recorded s.settings b.paused x
  count_is b x c i e = let d = rw i at e in cc

  -- "records equal those of single events"
  pub bytes_recorded : (b : Box) (run : List ℕ) (room : ℕ) → busy b ≡ false → (came b run room).records ≡ records_of s b.paused (take (came b run room).taken run)
  unfolding records_of
  bytes_recorded =
      bytes_by busy (byte_answer s) byte_box (λ b xs room g. g.records ≡ records_of s b.paused (take g.taken xs)) (λ b room. refl) (λ b xs room e. refl)
      (λ b xs room l. refl) (λ b x xs room r i e. refl)
      (λ b x xs room c g i l e h. ap₂ (λ (n : ℕ) (bs : List ℕ). replicate n x ++ bs) (count_is b x c i e) (rw i at h))
