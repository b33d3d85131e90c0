-- Boxes of two kinds that answer single events alike answer a gulp alike, and are left alike by it. Assumes nothing.
use Prim.Native.Nat.{ℕ, zero, suc, ◌-◌}
use mathlib.Core.Path.{◌≡◌, refl, ap}
use mathlib.Core.Bool.{Bool, true, false, cond}
use mathlib.Core.List.{List, [], ◌∷◌, ◌++◌}
use lib.Dec.{ltb}
use lib.ListN.{replicate}
use Rattle.std.specs.Prelude.{Ok, Err}
use Rattle.process.specs.Answers.{Received}
use Rattle.events.specs.Gulps.{Gulping, stop, more, copies, unless_refused, unless_ready, ticks_from, bytes_from}

-- some stand for some: they are ready alike
module _ {B C : Type 0} (ready : B → Bool) (ready' : C → Bool) (Stands : B → C → Type 0) (same-ready : (b : B) (c : C) → Stands b c → ready b ≡ ready' c) where
  -- as many are taken, the same is recorded, and the boxes after it stand for each other again
  pub record Alike (g : Gulping B) (h : Gulping C) : Type 0 where
    pub taken : g.taken ≡ h.taken
    pub records : g.records ≡ h.records
    pub box : Stands g.box h.box

  stop_alike : (b : B) (c : C) → Stands b c → Alike (stop b) (stop c)
  stop_alike b c s = record { taken = refl; records = refl; box = s }

  more_alike : (bs : List ℕ) (g : Gulping B) (h : Gulping C) → Alike g h → Alike (more bs g) (more bs h)
  more_alike bs g h a = record { taken = ap suc a.taken; records = ap (λ (l : List ℕ). bs ++ l) a.records; box = a.box }

  unless_alike : (b : B) (c : C) → Stands b c → (g : Gulping B) (h : Gulping C) → (ready b ≡ false → Alike g h) → Alike (unless_ready ready b g) (unless_ready ready' c h)
  unless_alike b c s g h rest = rw (← same-ready b c s) (go (ready b) refl)
    where
      go : (u : Bool) → ready b ≡ u → Alike (cond u (stop b) g) (cond u (stop c) h)
      go true e = stop_alike b c s
      go false e = rest e

  -- a tick, at a quiet moment, leaves them so
  module _ (tick : B → B) (tick' : C → C) (step : (b : B) (c : C) → Stands b c → ready b ≡ false → Stands (tick b) (tick' c)) where
    pub ticks_alike : (n : ℕ) (b : B) (c : C) → Stands b c → ready b ≡ false → Alike (ticks_from ready tick b n) (ticks_from ready' tick' c n)
    unfolding ticks_from
    ticks_alike zero b c s i = stop_alike b c s
    ticks_alike (suc n) b c s i =
        let t = step b c s i in
        more_alike [] _ _ (unless_alike (tick b) (tick' c) t _ _ (λ e. ticks_alike n (tick b) (tick' c) t e))

  -- a received byte, at a quiet moment, is answered alike and leaves them so
  module _ (answer : ℕ → B → Received) (answer' : ℕ → C → Received) (after : ℕ → B → B) (after' : ℕ → C → C)
      (same : (x : ℕ) (b : B) (c : C) → Stands b c → ready b ≡ false → answer x b ≡ answer' x c)
      (step : (x : ℕ) (b : B) (c : C) → Stands b c → ready b ≡ false → Stands (after x b) (after' x c)) where
    pub bytes_alike : (xs : List ℕ) (room : ℕ) (b : B) (c : C) → Stands b c → ready b ≡ false →
        Alike (bytes_from ready answer after b xs room) (bytes_from ready' answer' after' c xs room)
    unfolding bytes_from
    bytes_alike [] room b c s i = stop_alike b c s
    bytes_alike (x ∷ xs) room b c s i =
        let t = step x b c s i in
        rw (same x b c s i) (go (ltb room 2) (answer' x c) (λ m. unless_alike (after x b) (after' x c) t _ _ (λ e. bytes_alike xs m (after x b) (after' x c) t e)))
      where
        go : (u : Bool) (a : Received) →
            ((m : ℕ) → Alike (unless_ready ready (after x b) (bytes_from ready answer after (after x b) xs m)) (unless_ready ready' (after' x c) (bytes_from ready' answer' after' (after' x c) xs m))) →
            Alike (cond u (stop b) (unless_refused b x a (unless_ready ready (after x b) (bytes_from ready answer after (after x b) xs (room - copies a)))))
            (cond u (stop c) (unless_refused c x a (unless_ready ready' (after' x c) (bytes_from ready' answer' after' (after' x c) xs (room - copies a)))))
        go true a rest = stop_alike b c s
        go false (Ok k) rest = more_alike (replicate k.count x) _ _ (rest (room - k.count))
        go false (Err r) rest = stop_alike b c s
