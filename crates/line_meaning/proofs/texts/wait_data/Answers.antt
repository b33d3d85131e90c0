-- `wait_data` meets its contract: each `return` is a case of what is found. Assumes nothing.
use mathlib.Core.Path.{sym, ap}
use Rattle.std.proofs.lemmas.Result.{err_from_is_err_and}
use Rattle.language.specs.Meaning.{marked_data}
use Rattle.line_meaning.proofs.Filling.{found_as, finds_as, waits_for, waits_for_nothing, waits_for_none}
use Rattle.line_meaning.proofs.texts.wait_data.Goals as goal

pub returns-in_err-count : goal.returns-in_err-count
returns-in_err-count c =
    let p = err_from_is_err_and c.from_residual.result c.from_residual.ensures.1 in
    rw (p.1, p.2) (waits_for_none (finds_as (sym (ap marked_data c.skip.ensures))
    (found_as c.in_err-count.was c.read_marked.ensures)))

pub returns-then-count-eq0 : goal.returns-then-count-eq0
returns-then-count-eq0 c =
    waits_for_nothing (finds_as (sym (ap marked_data c.skip.ensures))
    (found_as c.in_ok-count.was c.read_marked.ensures)) c.if-count-eq0.true

pub returns : goal.returns
returns c =
    waits_for (finds_as (sym (ap marked_data c.skip.ensures))
    (found_as c.in_ok-count.was c.read_marked.ensures)) c.if-count-eq0.false
