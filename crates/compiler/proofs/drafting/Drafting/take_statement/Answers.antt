-- `take_statement` meets its contract: each way on is a law of `Writing`. Assumes nothing.
use Rattle.std.proofs.Common.{rules, ◌≡◌, ap, ◌∙◌, Err}
use Rattle.language.specs.Cell.{coded}
use Rattle.compiler.proofs.Writing.{too_much, not_nested, statement_on}
use Rattle.compiler.proofs.drafting.Drafting.take_statement.Goals as goal

pub returns-then-from-size-gt-DATA : goal.returns-then-from-size-gt-DATA
returns-then-from-size-gt-DATA c = too_much _ _ _ c.args.self.now c.count-size.ensures (rw c.from.ensures at c.if-from-size-gt-DATA.true)

pub returns-in_err-nest : goal.returns-in_err-nest
returns-in_err-nest c =
    let same : c.from_residual.result ≡ Err c.in_err-nest.field-0.0 = search rules in
    rw same (not_nested _ _ _ c.args.self.now c.count-size.ensures (rw c.from.ensures at c.if-from-size-gt-DATA.false) c.nest.ensures _ (c.in_err-nest.was))

pub returns : goal.returns
returns c =
    statement_on _ _ _ c.args.self.now c.count-size.ensures (rw c.from.ensures at c.if-from-size-gt-DATA.false) c.nest.ensures
    (c.in_ok-nest.was) (c.code.ensures ∙ ap coded c.placed.ensures) c.write.ensures (search rules)
