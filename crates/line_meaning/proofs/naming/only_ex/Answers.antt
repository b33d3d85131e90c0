-- `only_ex` meets its contract: four entries of the table have one reader. Assumes nothing.
use Prim.Native.Nat.{ℕ}
use mathlib.Core.Path.{◌≡◌, sym, ap, ◌∙◌}
use mathlib.Core.List.{List}
use Rattle.language.specs.Meaning.{ex_in, lookup}
use Rattle.words.specs.Words.{argument}
use Rattle.line_values.specs.Inside.Line.{line_from}
use Rattle.line_meaning.specs.Inside.Names.{settings_long}
use Rattle.line_meaning.proofs.WithoutData.{ex_one, ex_two, ex_three, ex_four, no_ex}
use Rattle.line_meaning.proofs.naming.only_ex.Goals.{then-is_name-via-then-is_name, then-is_name-via-else-is_name+then-is_name-2, then-is_name-via-else-is_name+else-is_name-2+then-is_name-3, then-is_name-via-else-is_name+else-is_name-2+else-is_name-3+then-is_name-4}
use Rattle.line_meaning.proofs.naming.only_ex.Goals as goal

pub returns-then-is_name : goal.returns-then-is_name
returns-then-is_name c =
    let named : lookup (settings_long 6) c.args.word.now c.args.rest.now ≡ ex_in (argument c.args.rest.now) =
    elim c.then-is_name.branch [
      | then-is_name-via-then-is_name w ↦ ex_one _ _ c.is_name.ensures w.if-is_name.true
      | then-is_name-via-else-is_name+then-is_name-2 w ↦ ex_two _ _ w.is_name-else-is_name.ensures w.if-is_name-2.true
      | then-is_name-via-else-is_name+else-is_name-2+then-is_name-3 w ↦ ex_three _ _ w.is_name-else-is_name-2.ensures w.if-is_name-3.true
      | then-is_name-via-else-is_name+else-is_name-2+else-is_name-3+then-is_name-4 w ↦ ex_four _ _ w.is_name-else-is_name-3.ensures w.if-is_name-4.true
    ] in
    c.ex.ensures ∙ ap (λ (a : List ℕ). line_from (ex_in a)) c.argument.ensures ∙ ap line_from (sym named)

pub returns : goal.returns
unfolding line_from
returns c =
    ap line_from (sym (no_ex _ _ c.is_name.ensures c.if-is_name.false c.is_name-else-is_name.ensures
    c.if-is_name-2.false c.is_name-else-is_name-2.ensures c.if-is_name-3.false c.is_name-else-is_name-3.ensures
    c.if-is_name-4.false))
