-- `rts_or_resume` meets its contract: each `return` is an entry of the table. Assumes nothing.
use Prim.Native.Nat.{ℕ}
use mathlib.Core.Path.{refl, sym, ap, ◌∙◌}
use mathlib.Core.List.{List}
use Rattle.language.specs.Meaning.{rts_of}
use Rattle.language.specs.Table.{cell_for}
use Rattle.line_values.specs.Inside.Line.{line_from}
use Rattle.line_meaning.proofs.WithoutData.{rts_named, rts_not}
use Rattle.line_meaning.proofs.naming.rts_or_resume.Goals as goal

pub returns-then-is_name : goal.returns-then-is_name
returns-then-is_name c =
    c.rts.ensures ∙ ap (λ (a : List ℕ). line_from (rts_of a)) c.argument.ensures ∙ ap line_from
    (sym (rts_named _ _ c.is_name.ensures c.if-is_name.true))

pub returns : goal.returns
unfolding line_from cell_for
returns c = rts_not _ _ c.is_name.ensures c.if-is_name.false refl c.bare_name.ensures
