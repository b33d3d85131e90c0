-- The text of a clock value: the letter, and the units that are fixed. Assumes nothing.
use Prim.Native.Nat.{ℕ, zero, suc, ◌-◌, ◌≤◌, ◌<◌}
use mathlib.Core.Path.{◌≡◌, refl, sym, ◌∙◌}
use mathlib.Core.Bool.{Bool, cond}
use mathlib.Core.List.{List, [], ◌∷◌, ◌++◌}
use native.Mathlib.Omega.{arith}
use lib.Dec.{ltb, leb, eqb}
use lib.ListN.{drop}
use borrow.Author.Tests.{le-leb, lt-ltb, le-ltb, eq-eqb, ne_eqb}
use Rattle.writer.specs.Put.{two_digits}
use Rattle.language.specs.declared.Clock.{Clock}
use Rattle.language.specs.Clock.{in_twos, clock_letter, clock_text}
use Rattle.language.specs.Cell.{fixed_units}
use Rattle.lister.specs.Inside.Printed.{FitsListing, Printed}
use Rattle.lister.proofs.Printing.{printed_is, printed_more, room_is, first_room, then_room}

-- a unit, if it is fixed
abbrev pub unit_text : Bool → ℕ → List ℕ
unit_text is n = cond is (two_digits n) []

units_are : (f d h m s : ℕ) → in_twos (drop (4 - f) (d ∷ h ∷ m ∷ s ∷ [])) ≡ unit_text (leb 4 f) d ++ (unit_text (leb 3 f) h ++ (unit_text (leb 2 f) m ++ unit_text (leb 1 f) s))
unfolding in_twos two_digits
units_are zero d h m s = refl
units_are (suc zero) d h m s = refl
units_are (suc (suc zero)) d h m s = refl
units_are (suc (suc (suc zero))) d h m s = refl
units_are (suc (suc (suc (suc n)))) d h m s =
    let k : ℕ = suc (suc (suc (suc n))) in
    let z : 4 - k ≡ 0 = omega arith in
    rw (z, le-leb 4 k (omega arith), le-leb 3 k (omega arith), le-leb 2 k (omega arith), le-leb 1 k (omega arith))

letter_is : (f d h m s : ℕ) → clock_letter (drop (4 - f) (d ∷ h ∷ m ∷ s ∷ [])) ≡ cond (ltb f 2) 115 (cond (eqb f 2) 109 (cond (eqb f 3) 104 68))
unfolding clock_letter
letter_is zero d h m s = refl
letter_is (suc zero) d h m s = refl
letter_is (suc (suc zero)) d h m s = refl
letter_is (suc (suc (suc zero))) d h m s = refl
letter_is (suc (suc (suc (suc n)))) d h m s =
    let k : ℕ = suc (suc (suc (suc n))) in
    let z : 4 - k ≡ 0 = omega arith in
    rw (z, le-ltb k 2 (omega arith), ne_eqb k 2 (omega arith), ne_eqb k 3 (omega arith))

module _ (c : Clock) where
  letter_of : clock_letter (fixed_units c) ≡ cond (ltb c.fixed 2) 115 (cond (eqb c.fixed 2) 109 (cond (eqb c.fixed 3) 104 68))
  unfolding fixed_units
  letter_of = letter_is c.fixed c.day c.hour c.minute c.second

  pub is_second : c.fixed < 2 → 115 ≡ clock_letter (fixed_units c)
  is_second h = sym (letter_of ∙ rw (lt-ltb c.fixed 2 h))

  module _ (h : 2 ≤ c.fixed) where
    pub is_minute : c.fixed ≡ 2 → 109 ≡ clock_letter (fixed_units c)
    is_minute e = sym (letter_of ∙ rw (le-ltb c.fixed 2 h, eq-eqb c.fixed 2 e))

    module _ (n : c.fixed ≡ 2 → ⊥) where
      pub is_hour : c.fixed ≡ 3 → 104 ≡ clock_letter (fixed_units c)
      is_hour e = sym (letter_of ∙ rw (le-ltb c.fixed 2 h, ne_eqb c.fixed 2 n, eq-eqb c.fixed 3 e))

      pub is_day : (c.fixed ≡ 3 → ⊥) → 68 ≡ clock_letter (fixed_units c)
      is_day k = sym (letter_of ∙ rw (le-ltb c.fixed 2 h, ne_eqb c.fixed 2 n, ne_eqb c.fixed 3 k))

  abbrev day : List ℕ
  day = unit_text (leb 4 c.fixed) c.day

  abbrev hour : List ℕ
  hour = unit_text (leb 3 c.fixed) c.hour

  abbrev minute : List ℕ
  minute = unit_text (leb 2 c.fixed) c.minute

  abbrev second : List ℕ
  second = unit_text (leb 1 c.fixed) c.second

  -- the letter, then the units
  module _ {l at : ℕ} (is : l ≡ clock_letter (fixed_units c)) (room : FitsListing at (clock_text (fixed_units c))) where
    clock_is : (l ∷ []) ++ (day ++ (hour ++ (minute ++ second))) ≡ clock_text (fixed_units c)
    unfolding clock_text fixed_units
    clock_is = rw (is, sym (units_are c.fixed c.day c.hour c.minute c.second))

    all_room : FitsListing at ((l ∷ []) ++ (day ++ (hour ++ (minute ++ second))))
    all_room = room_is clock_is room

    pub letter_room : FitsListing at (l ∷ [])
    letter_room = first_room (l ∷ []) (day ++ (hour ++ (minute ++ second))) all_room

    module _ {d d₁ : List ℕ} {p : ℕ} (x : Printed (l ∷ []) d at p d₁) where
      rest₁ : FitsListing p (day ++ (hour ++ (minute ++ second)))
      rest₁ = then_room (l ∷ []) (day ++ (hour ++ (minute ++ second))) all_room x.place

      pub day_room : FitsListing p day
      day_room = first_room day (hour ++ (minute ++ second)) rest₁

      module _ {d₂ : List ℕ} {p₂ : ℕ} (x₂ : Printed day d₁ p p₂ d₂) where
        rest₂ : FitsListing p₂ (hour ++ (minute ++ second))
        rest₂ = then_room day (hour ++ (minute ++ second)) rest₁ x₂.place

        pub hour_room : FitsListing p₂ hour
        hour_room = first_room hour (minute ++ second) rest₂

        module _ {d₃ : List ℕ} {p₃ : ℕ} (x₃ : Printed hour d₂ p₂ p₃ d₃) where
          rest₃ : FitsListing p₃ (minute ++ second)
          rest₃ = then_room hour (minute ++ second) rest₂ x₃.place

          pub minute_room : FitsListing p₃ minute
          minute_room = first_room minute second rest₃

          module _ {d₄ : List ℕ} {p₄ : ℕ} (x₄ : Printed minute d₃ p₃ p₄ d₄) where
            pub second_room : FitsListing p₄ second
            second_room = then_room minute second rest₃ x₄.place

            pub clock_printed : {e : List ℕ} {r : ℕ} → Printed second d₄ p₄ r e → Printed (clock_text (fixed_units c)) d at r e
            clock_printed x₅ = printed_is clock_is (printed_more x (printed_more x₂ (printed_more x₃ (printed_more x₄ x₅))))
