-- The body is written part by part. Assumes nothing.
use Prim.Native.Nat.{ℕ, ◌<◌}
use mathlib.Core.Path.{◌≡◌}
use mathlib.Core.Bool.{Bool}
use mathlib.Core.List.{List, ◌++◌}
use lib.ListN.{length, get_or, drop}
use Rattle.language.specs.declared.Heads.{Heads}
use Rattle.accepted.specs.Inside.Heads.{ends_of, first_empty}
use Rattle.lister.specs.Inside.Printed.{FitsListing, Printed, printed_items, printed_cells, further, printed_first, printed_body}
use Rattle.lister.proofs.Printing.{printed_is, printed_more, room_is, first_room, then_room}
use Rattle.lister.proofs.Lining.{body_parts}

module _ (pool ws : List ℕ) (h : Heads) (cells : 0 < length ws) (ends : length h.ends ≡ 8) (some : h.processes ≡ 0 → ⊥) {e : ℕ} (is : e ≡ get_or h.ends 0 0) {t : Bool} (told : t ≡ first_empty h) {at : ℕ} (room : FitsListing at (printed_body pool ws (ends_of h))) where
  abbrev first : List ℕ
  first = printed_cells pool ws 0 e

  abbrev rest : List ℕ
  rest = printed_items (further pool ws e (drop 1 (ends_of h)))

  all_room : FitsListing at (printed_first t ++ (first ++ rest))
  all_room = room_is (body_parts pool ws h cells ends some is told) room

  pub line_room : FitsListing at (printed_first t)
  line_room = first_room (printed_first t) (first ++ rest) all_room

  module _ {d d₁ : List ℕ} {p : ℕ} (x : Printed (printed_first t) d at p d₁) where
    after_line : FitsListing p (first ++ rest)
    after_line = then_room (printed_first t) (first ++ rest) all_room x.place

    pub cells_room : FitsListing p first
    cells_room = first_room first rest after_line

    module _ {d₂ : List ℕ} {p₂ : ℕ} (x₂ : Printed first d₁ p p₂ d₂) where
      pub others_room : FitsListing p₂ rest
      others_room = then_room first rest after_line x₂.place

      pub body_printed : {f : List ℕ} {r : ℕ} → Printed rest d₂ p₂ r f → Printed (printed_body pool ws (ends_of h)) d at r f
      body_printed x₃ = printed_is (body_parts pool ws h cells ends some is told) (printed_more x (printed_more x₂ x₃))
