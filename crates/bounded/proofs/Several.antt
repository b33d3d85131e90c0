-- The processes of a state, place by place, and the lowest that is ready. Assumes nothing.
use mathlib.Core.Path.{◌≡◌, refl, sym, ap, ◌∙◌}
use mathlib.Core.Bool.{Bool, true, false, cond, ◌||◌}
use mathlib.Core.List.{List, [], ◌∷◌, map}
use Prim.Native.Nat.{ℕ, zero, suc, ◌+◌, ◌<◌}
use native.Mathlib.Nat.{le_of_suc-le-suc}
use native.Mathlib.Decide.{dec_lt}
use native.Mathlib.Omega.{arith}
use lib.Dec.{ltb}
use lib.ListN.{length, get_or, get_or-map}
use borrow.Author.Tests.{lt-ltb, le-ltb}
use Rattle.reader.proofs.Tests.{both}
use Rattle.language.specs.declared.Heads.{Heads}
use Rattle.process.specs.declared.Process.{Process}
use Rattle.process.specs.Waiting.{ready, range_right}
use Rattle.process.specs.State.{any}
use Rattle.runner.specs.Draining.{lowest, nobody}
use Rattle.runner.specs.Starting.{started, started_from}
use Rattle.reader.specs.Bytes.{all}

-- ---- the lowest that is ready

pub lowest_ready : (ps : List Process) → lowest ps < length ps → ready (get_or ps (lowest ps) nobody) ≡ true
unfolding lowest
lowest_ready [] h = absurd (omega arith)
lowest_ready (p ∷ ps) h = go (ready p) refl (lowest_ready ps) h
  where
    go : (t : Bool) → ready p ≡ t → (lowest ps < length ps → ready (get_or ps (lowest ps) nobody) ≡ true) → cond t 0 (suc (lowest ps)) < suc (length ps) →
        ready (get_or (p ∷ ps) (cond t 0 (suc (lowest ps))) nobody) ≡ true
    go true e ih h = e
    go false e ih h = ih (le_of_suc-le-suc h)

ltb_suc : (a b : ℕ) → ltb (suc a) (suc b) ≡ ltb a b
ltb_suc a b = elim (dec_lt a b) [
  | yes l ↦ lt-ltb (suc a) (suc b) (omega arith) ∙ sym (lt-ltb a b l)
  | no l ↦ le-ltb (suc a) (suc b) (omega arith) ∙ sym (le-ltb a b (omega arith))
]

-- some process is ready just when there is a lowest
pub busy_lowest : (ps : List Process) → any ready ps ≡ ltb (lowest ps) (length ps)
unfolding lowest
busy_lowest [] = refl
busy_lowest (p ∷ ps) = go (ready p) (busy_lowest ps)
  where
    go : (t : Bool) → any ready ps ≡ ltb (lowest ps) (length ps) → (t || any ready ps) ≡ ltb (cond t 0 (suc (lowest ps))) (suc (length ps))
    go true e = sym (lt-ltb 0 (suc (length ps)) (omega arith))
    go false e = e ∙ sym (ltb_suc (lowest ps) (length ps))

-- ---- place by place

-- all of them changed alike, where that leaves a process that is over as it is
pub map_at : (g : Process → Process) → g nobody ≡ nobody → (ps : List Process) (i : ℕ) → get_or (map g ps) i nobody ≡ g (get_or ps i nobody)
map_at g e ps i = rw e at (get_or-map g ps i nobody)

pub every_right : (ps : List Process) → ((i : ℕ) → i < length ps → range_right (get_or ps i nobody) ≡ true) → all range_right ps ≡ true
every_right [] h = refl
every_right (p ∷ ps) h = both (range_right p) _ (h 0 (omega arith)) (every_right ps (λ i l. h (suc i) (omega arith)))

-- a start
pub started_length : (h : Heads) (i n : ℕ) → length (started_from h i n) ≡ n
unfolding started_from
started_length h i zero = refl
started_length h i (suc n) = ap suc (started_length h (i + 1) n)

pub started_at : (h : Heads) (i n j : ℕ) → j < n → get_or (started_from h i n) j nobody ≡ started h (i + j)
unfolding started_from
started_at h i zero j l = absurd (omega arith)
started_at h i (suc n) zero l = let e : i + 0 ≡ i = omega arith in rw e
started_at h i (suc n) (suc j) l = let e : i + 1 + j ≡ i + suc j = omega arith in started_at h (i + 1) n j (omega arith) ∙ rw e
