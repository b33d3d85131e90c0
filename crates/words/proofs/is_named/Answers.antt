-- `is_named` meets its contract: a place past the end, or before the other, leaves no bytes. Assumes nothing.
use Rattle.std.proofs.Common.{◌<◌, ap, ◌∙◌, arith}
use Rattle.reader.specs.Bytes.{same}
use Rattle.words.specs.Words.{is_named}
use Rattle.words.proofs.Passing.{held_same, to_the_end, nothing_there}
use Rattle.words.proofs.is_named.Goals as goal

pub returns-in-Some : goal.returns-in-Some
unfolding is_named
returns-in-Some c =
    c.eq.ensures
    ∙ held_same _ c.args.name.now
    ∙ ap (λ w. same w c.args.name.now) (c.in-Some.ensures.lookup.0.2 ∙ to_the_end c.args.s.now c.args.from c.args.to c.args.name.now c.min.ensures)

pub returns-in-None : goal.returns-in-None
returns-in-None c =
    let h : c.min.result < c.args.from = omega (arith, c.in-None.ensures.lookup.0, c.min.ensures) in
    c.is_empty.ensures ∙ nothing_there c.args.s.now c.args.from c.args.to c.args.name.now c.min.ensures h
