-- "`#LOOP n` ... `EVER`, 0 or nothing is forever. `#END` closes the innermost loop."
use Rattle.std.specs.Prelude.{ℕ, ◌+◌, ◌-◌, cond, List, ◌==◌, nat_le, nat_lt, slice_index, slice_set}
use Rattle.language.specs.Limits.{loop_places}
use Rattle.process.specs.declared.Process.{Process}
use Rattle.statement.specs.Ways.{Moved, astray, goes}

-- LOOP n, with the place after it: a ninth open loop leaves the table
unfoldable pub opened : Process → ℕ → ℕ → Moved
opened p next n =
    cond (nat_lt p.depth loop_places)
    (goes p next (p.depth + 1) (slice_set p.left p.depth n) (slice_set p.back p.depth next))
    (astray p)

-- back to the body of the innermost loop, which lies before the process's end
unfoldable pub back_to : Process → ℕ → List ℕ → Moved
back_to p body left = cond (nat_lt body p.end) (goes p body p.depth left p.back) (astray p)

-- END of the loop at `top` of the open ones, with so many passes left, the present one among them; 0 is forever
unfoldable pub pass : Process → ℕ → ℕ → ℕ → ℕ → Moved
pass p next top body n =
    cond (n == 0) (back_to p body p.left)
    (cond (n == 1) (goes p next top p.left p.back)
    (back_to p body (slice_set p.left top (n - 1))))

-- END with none open, or with more than eight, leaves the table
unfoldable pub closed : Process → ℕ → Moved
closed p next =
    cond (p.depth == 0) (astray p)
    (cond (nat_le p.depth loop_places)
    (pass p next (p.depth - 1) (slice_index p.back (p.depth - 1)) (slice_index p.left (p.depth - 1)))
    (astray p))
