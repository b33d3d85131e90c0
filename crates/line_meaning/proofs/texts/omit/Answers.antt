-- `omit` meets its contract: each `return` is a case of what is found. Assumes nothing.
use native.Mathlib.Omega.{arith}
use mathlib.Core.Path.{sym, ap}
use Rattle.std.proofs.lemmas.Result.{err_from_is_err_and}
use Rattle.language.specs.Meaning.{marked_data}
use Rattle.line_meaning.proofs.Filling.{found_as, finds_as, found_few, omits, omits_none}
use Rattle.line_meaning.proofs.texts.omit.Goals as goal

pub returns-in_err-count : goal.returns-in_err-count
returns-in_err-count c =
    let p = err_from_is_err_and c.from_residual.result c.from_residual.ensures.1 in
    rw (p.1, p.2) (omits_none (finds_as (sym (ap marked_data c.skip.ensures))
    (found_as c.in_err-count.was c.read_marked.ensures)))

pub overflow_cast-result : goal.overflow_cast-result
overflow_cast-result c =
    let h = found_few (found_as c.in_ok-count.was c.read_marked.ensures) in
    omega arith

pub returns : goal.returns
returns c =
    omits (finds_as (sym (ap marked_data c.skip.ensures))
    (found_as c.in_ok-count.was c.read_marked.ensures))
