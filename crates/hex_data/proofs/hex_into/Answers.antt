-- `hex_into` meets its contract: each `return` is a law on what the data say. Assumes nothing.
use mathlib.Core.Path.{◌≡◌, sym, ◌∙◌}
use Rattle.std.proofs.Common.{rules, ℕ}
use Rattle.std.specs.Prelude.{Ok, Result}
use Rattle.hex_data.specs.Hex.{hex_into, hex_put, counted}
use borrow.Author.Tests.{leb-true}
use Rattle.hex_data.proofs.Stepping.{counted_good, counted_room, into_full, into_fits}
use Rattle.hex_data.proofs.hex_into.Goals as goal

pub returns-in_err-n : goal.returns-in_err-n
unfolding hex_into hex_put counted
returns-in_err-n c = search (rules, c.map_err.ensures.cases, c.in_err-n.ensures.cases, c.hex_count.ensures, c.from_residual.ensures)

pub returns-then-not-has_room : goal.returns-then-not-has_room
returns-then-not-has_room c =
    let told : ◌≡◌ {A = Result ℕ ℕ} (Ok c.in_ok-n.n) c.hex_count.result = search (rules, c.map_err.ensures.cases, c.map_err.ensures.variant) in
    into_full _ _ _ (told ∙ c.hex_count.ensures) c.has_room.ensures c.if-not-has_room.true

pub hex_write-requires : goal.hex_write-requires
hex_write-requires c =
    let told : ◌≡◌ {A = Result ℕ ℕ} (Ok c.in_ok-n.n) c.hex_count.result = search (rules, c.map_err.ensures.cases, c.map_err.ensures.variant) in
    let t = told ∙ c.hex_count.ensures in (
      counted_good _ t,
      counted_room _ _ _ t (leb-true _ _ (sym c.has_room.ensures ∙ c.if-not-has_room.false)),
    )

pub returns : goal.returns
returns c =
    let told : ◌≡◌ {A = Result ℕ ℕ} (Ok c.in_ok-n.n) c.hex_count.result = search (rules, c.map_err.ensures.cases, c.map_err.ensures.variant) in
    let f = into_fits _ _ _ (told ∙ c.hex_count.ensures) c.has_room.ensures c.if-not-has_room.false in
    (f.0, c.hex_write.ensures ∙ f.1)
