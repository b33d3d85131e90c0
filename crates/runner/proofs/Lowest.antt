-- The first process that is ready, as the code finds it, and what its turn says. Assumes nothing.
use Rattle.std.proofs.Common.{◌≡◌, suc, ◌+◌, true, false, not, cond, List, [], ◌∷◌, Result, Ok, Err, refl, arith}
use Rattle.std.specs.Result.{MatchResult}
use Rattle.std.specs.List.{position_or_len}
use Rattle.process.specs.declared.Process.{Process}
use Rattle.process.specs.declared.RunRefusal.{RunRefusal}
use Rattle.statement.specs.declared.outcome.Outcome.{Outcome}
use Rattle.statement.specs.declared.outcome.Outcome.TheVariants.{Refused}
use Rattle.process.specs.Waiting.{ready}
use Rattle.runner.specs.Draining.{lowest}

pub lowest_position : (ps : List Process) → position_or_len ready ps ≡ lowest ps
unfolding lowest
lowest_position [] = refl
lowest_position (p ∷ ps) =
    let n = position_or_len ready ps in
    let e : n ≡ lowest ps = lowest_position ps in
    let end : 1 + n ≡ suc (lowest ps) = omega arith in
    elim (ready p) as (λ t. cond (not t) (1 + n) 0 ≡ cond t 0 (suc (lowest ps))) [ true ↦ refl | false ↦ end ]

-- a refusal is what a drain says too
unfoldable pub answered : Result Outcome RunRefusal → Outcome
answered (Ok o) = o
answered (Err r) = Refused r

pub said_is : {o : Outcome} (r : Result Outcome RunRefusal) → MatchResult r (λ x. o ≡ x) (λ e. o ≡ Refused e) → o ≡ answered r
unfolding answered
said_is (Ok x) h = h
said_is (Err e) h = h
