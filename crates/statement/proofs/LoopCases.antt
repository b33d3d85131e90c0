-- What the definitions of loops come to where a pass is left: a proof cites a case. Assumes nothing.
use Rattle.std.proofs.Common.{◌≡◌, ℕ, ◌-◌, ◌≤◌, List, get_or, set, sym, ap, ◌∙◌, ne_eqb, le-leb, arith}
use Rattle.std.proofs.lemmas.Grind.{common_steps}
use Rattle.language.specs.Limits.{loop_limit}
use Rattle.process.specs.declared.Process.{Process}
use Rattle.statement.specs.Inside.InTable.{in_table}
use Rattle.statement.specs.Loops.{back_to, pass, closed}

module _ (p : Process) where
  -- the passes left decide nothing of the way back
  pub back_same : (body : ℕ) (left : List ℕ) → in_table (back_to (record p { left = left }) body left) ≡ in_table (back_to p body left)
  unfolding back_to
  back_same body left = grind (arith, common_steps)

  pub pass_more : (next top body n : ℕ) → (n ≡ 0 → ⊥) → (n ≡ 1 → ⊥) → back_to p body (set p.left top (n - 1)) ≡ pass p next top body n
  unfolding pass
  pass_more next top body n h k = rw (ne_eqb n 0 h, ne_eqb n 1 k)

  pub close_one : (next : ℕ) → (p.depth ≡ 0 → ⊥) → p.depth ≤ loop_limit
      → pass p next (p.depth - 1) (get_or p.back (p.depth - 1) 0) (get_or p.left (p.depth - 1) 0) ≡ closed p next
  unfolding closed
  close_one next h k = rw (ne_eqb p.depth 0 h, le-leb p.depth loop_limit k)

  pub close_more : (next at : ℕ) → at ≡ p.depth - 1 → (p.depth ≡ 0 → ⊥) → p.depth ≤ loop_limit → (get_or p.left at 0 ≡ 0 → ⊥) → (get_or p.left at 0 ≡ 1 → ⊥)
      → in_table (back_to (record p { left = set p.left at (get_or p.left at 0 - 1) }) (get_or p.back at 0) (set p.left at (get_or p.left at 0 - 1))) ≡ in_table (closed p next)
  close_more next at e d l z o =
      let k = rw (sym e) at (close_one next d l) in
      back_same _ _ ∙ ap in_table (pass_more next at (get_or p.back at 0) (get_or p.left at 0) z o ∙ k)
