-- The processes of a start, one after the other. Assumes nothing.
use Rattle.std.proofs.Common.{◌≡◌, ℕ, zero, suc, ◌+◌, ◌<◌, List, [], ◌∷◌, length, get_or, refl, ap, ap₂, ◌∙◌, arith}
use Rattle.std.proofs.Math.ListN.{set}
use Rattle.std.proofs.lemmas.Grind.{common_steps}
use Rattle.language.specs.declared.Heads.{Heads}
use Rattle.process.specs.declared.Process.{Process}
use Rattle.runner.specs.Starting.{started, started_from}

pub each_started : (h : Heads) (d : Process) (n i : ℕ) (ps : List Process) → length ps ≡ n → ((k : ℕ) → k < n → get_or ps k d ≡ started h (i + k)) → ps ≡ started_from h i n
unfolding started_from
each_started h d zero i [] e f = refl
each_started h d zero i (p ∷ ps) e f = absurd (omega arith)
each_started h d (suc n) i [] e f = absurd (omega arith)
each_started h d (suc n) i (p ∷ ps) e f =
    ap₂ ◌∷◌ (f 0 (omega arith) ∙ ap (started h) (omega arith))
    (each_started h d n (i + 1) ps (omega arith) (λ k l. f (suc k) (omega arith) ∙ ap (started h) (omega arith)))

-- one place more
pub started_more : (h : Heads) (d x : Process) (ps : List Process) (i : ℕ) → i < length ps → x ≡ started h i → ((k : ℕ) → k < i → get_or ps k d ≡ started h k)
    → (k : ℕ) → k < i + 1 → get_or (set ps i x) k d ≡ started h k
started_more h d x ps i b e f k l = let g = f k in grind (arith, common_steps)
