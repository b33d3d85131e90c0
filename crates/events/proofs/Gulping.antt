-- A gulp, one single event after the other: what holds of a gulp that stops, and of one more event before any other gulp, holds of every gulp on a box
-- that has no process ready. Assumes nothing.
use mathlib.Core.Path.{◌≡◌, refl}
use mathlib.Core.Bool.{Bool, true, false}
use mathlib.Core.List.{List, [], ◌∷◌}
use Prim.Native.Nat.{ℕ, zero, suc, ◌-◌, ◌≤◌, ◌<◌}
use lib.Dec.{ltb}
use lib.ListN.{replicate}
use borrow.Author.Tests.{ltb-true, ltb-false}
use Rattle.std.specs.Prelude.{Ok, Err}
use Rattle.reader.proofs.Tests.{by_cases}
use Rattle.process.specs.declared.Copies.{Copies}
use Rattle.process.specs.declared.RunRefusal.{RunRefusal}
use Rattle.process.specs.Answers.{Received}
use Rattle.events.specs.Gulps.{Gulping, stop, more, copies, unless_refused, unless_ready, ticks_from, bytes_from}

module _ {B : Type 0} (ready : B → Bool) where
  -- R b n g: g may come of n ticks on the box b
  module _ (tick : B → B) (R : B → ℕ → Gulping B → Type 0)
      (ends : (b : B) → R b 0 (stop b))
      (wakes : (b : B) (n : ℕ) → ready b ≡ true → R b n (stop b))
      (step : (b : B) (n : ℕ) (rest : Gulping B) → ready b ≡ false → R (tick b) n rest → R b (suc n) (more [] rest))
    where
      pub ticks_by : (b : B) (n : ℕ) → ready b ≡ false → R b n (ticks_from ready tick b n)
      unfolding ticks_from
      ticks_by b zero q = ends b
      ticks_by b (suc n) q =
          step b n _ q (by_cases (R (tick b) n) (ready (tick b)) (stop (tick b)) (ticks_from ready tick (tick b) n) (wakes (tick b) n) (ticks_by (tick b) n))

  -- R b xs room g: g may come of the bytes xs on the box b with so much room
  module _ (answer : ℕ → B → Received) (after : ℕ → B → B) (R : B → List ℕ → ℕ → Gulping B → Type 0)
      (ends : (b : B) (room : ℕ) → R b [] room (stop b))
      (wakes : (b : B) (xs : List ℕ) (room : ℕ) → ready b ≡ true → R b xs room (stop b))
      (full : (b : B) (xs : List ℕ) (room : ℕ) → room < 2 → R b xs room (stop b))
      (refuses : (b : B) (x : ℕ) (xs : List ℕ) (room : ℕ) (r : RunRefusal) → ready b ≡ false → answer x b ≡ Err r → R b (x ∷ xs) room (stop b))
      (step : (b : B) (x : ℕ) (xs : List ℕ) (room : ℕ) (c : Copies) (rest : Gulping B) → ready b ≡ false → 2 ≤ room → answer x b ≡ Ok c →
      R (after x b) xs (room - c.count) rest → R b (x ∷ xs) room (more (replicate c.count x) rest))
    where
      one : (b : B) (x : ℕ) (xs : List ℕ) (room : ℕ) → ready b ≡ false → 2 ≤ room → (a : Received) → answer x b ≡ a →
          ((left : ℕ) → R (after x b) xs left (unless_ready ready (after x b) (bytes_from ready answer after (after x b) xs left))) →
          R b (x ∷ xs) room (unless_refused b x a (unless_ready ready (after x b) (bytes_from ready answer after (after x b) xs (room - copies a))))
      one b x xs room q l (Ok c) e rest = step b x xs room c _ q l e (rest (room - c.count))
      one b x xs room q l (Err r) e rest = refuses b x xs room r q e

      pub bytes_by : (b : B) (xs : List ℕ) (room : ℕ) → ready b ≡ false → R b xs room (bytes_from ready answer after b xs room)
      unfolding bytes_from
      bytes_by b [] room q = ends b room
      bytes_by b (x ∷ xs) room q =
          let z : B = after x b in
          by_cases (R b (x ∷ xs) room) (ltb room 2) (stop b) _ (λ l. full b (x ∷ xs) room (ltb-true room 2 l))
          (λ l. one b x xs room q (ltb-false room 2 l) (answer x b) refl
          (λ left. by_cases (R z xs left) (ready z) (stop z) (bytes_from ready answer after z xs left) (wakes z xs left) (bytes_by z xs left)))
