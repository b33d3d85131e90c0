-- `column_in` meets its contract, fault by fault: where the rest of a line is wrong, no more of it can be taken than it has. Assumes nothing.
use Prim.Native.Nat.{◌≤◌}
use native.Mathlib.Omega.{arith}
use borrow.Author.Rules.{rules}
use Rattle.language.specs.Limits.{line_limit}
use Rattle.language.specs.Column.{column_of, column_in}
use Rattle.language.proofs.Inside.{line_inside}
use Rattle.compiler.proofs.Asking.{other_first}
use borrow.Enum.Refused.{opened}
use Rattle.compiler.proofs.columns.column_in.Goals as goal
use Rattle.compiler.proofs.columns.column_in.Goals.{After-line_taken}

-- the line is not too long
taken-few : (c : After-line_taken) → c.line_taken.result ≤ line_limit
taken-few c =
    omega (arith, c.line_taken.ensures, line_inside c.args.line.now, c.requires c.in-BadRest.is)

pub overflow_cast-result : goal.overflow_cast-result
overflow_cast-result c = omega (arith, taken-few (goal.at.overflow_cast-result c).After-line_taken)

pub overflow_add-result : goal.overflow_add-result
overflow_add-result c = omega (arith, taken-few (goal.at.overflow_add-result c).After-line_taken)

pub returns-in-LineTooLong : goal.returns-in-LineTooLong
unfolding column_in
returns-in-LineTooLong c = search rules

pub returns-in-BadRest : goal.returns-in-BadRest
unfolding column_in column_of
returns-in-BadRest c = rw c.in-BadRest.is (omega (arith, c.line_taken.ensures))

pub returns-in-TextTooLong : goal.returns-in-TextTooLong
unfolding column_in
returns-in-TextTooLong c = search rules

pub returns-in_default : goal.returns-in_default
returns-in_default c = other_first _ c.args.fault (opened c.in_default.in_default-own.keys4)
