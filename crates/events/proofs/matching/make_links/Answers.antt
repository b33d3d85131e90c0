-- `events::matching::make_links` meets its contract. Invariant: the links up to i are there. Assumes nothing.
use mathlib.Core.Path.{refl}
use native.Mathlib.Omega.{arith}
use borrow.Author.Rules.{rules}
use Rattle.events.proofs.Links.{advance_le, linked_fewer, linked_below, linked_more}
use Rattle.events.proofs.Kept.{told, told_kept}
use Rattle.events.proofs.matching.make_links.Goals as goal

pub overflow_add-i : goal.overflow_add-i
overflow_add-i c = record { fits = omega (arith, c.from-i.ensures, c.slice_known-2-1.given 0) }

pub loop-i-init : goal.loop-i-init
loop-i-init c = (omega arith, omega (arith, c.from-i.ensures, c.slice_known-2-1.given 0), refl, rw c.from-i.ensures c.requires.3)

pub followed-n-requires : goal.followed-n-requires
followed-n-requires c =
    let l = c.loop-i in
    let less = linked_below l.invariant.3 l.invariant.0 (omega arith) c.from-j.ensures in
    (omega arith, omega arith, linked_fewer l.invariant.3 (omega arith))

pub overflow_cast-links : goal.overflow_cast-links
overflow_cast-links c =
    let l = c.loop-i in
    let less = linked_below l.invariant.3 l.invariant.0 (omega arith) c.from-j.ensures in
    let most = advance_le _ _ _ (omega arith) c.followed-n.ensures in
    omega arith

pub loop-i-preserved : goal.loop-i-preserved
loop-i-preserved c =
    let l = c.loop-i in (
      omega arith,
      omega arith,
      search rules,
      linked_more l.invariant.3 l.invariant.0 (omega arith) (omega arith) c.from-j.ensures c.followed-n.ensures,
    )

pub returns : goal.returns
returns c =
    let l = c.loop-i in (
      linked_fewer (told l.invariant.0 l.invariant.3) c.loop-i-test.false,
      told_kept l.invariant.0 (omega arith) l.invariant.3,
    )
