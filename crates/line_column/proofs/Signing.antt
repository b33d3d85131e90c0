-- LOG's signs: the state of the loop, and one law for each way on. Assumes nothing.
use Prim.Native.Nat.{ℕ, suc, ◌+◌, ◌≤◌, ◌<◌}
use mathlib.Core.Path.{◌≡◌, refl, sym, ap, ◌∙◌}
use mathlib.Core.Bool.{Bool, true, false}
use mathlib.Core.List.{List, []}
use native.Mathlib.Numerals.{add-one}
use native.Mathlib.Omega.{arith}
use lib.Dec.{eqb}
use lib.ListN.{length, drop, get_or, drop_of_length-le}
use lib.Seq.{drop-cons}
use Rattle.language.specs.Meaning.{is_sign}
use Rattle.language.specs.Column.{signs_taken}

-- the place that is looked for is the same, looked for from `i` on; `marked` tells that `@` stands before
pub record Signing (s : List ℕ) (at i : ℕ) (marked : Bool) : Type 0 where
  pub whole : at + signs_taken (drop at s) false ≡ i + signs_taken (drop i s) marked

-- the flag, under another name
pub renamed : {s : List ℕ} {at i : ℕ} {marked marked' : Bool} → marked' ≡ marked → Signing s at i marked → Signing s at i marked'
renamed e w = rw e w

none : (marked : Bool) → signs_taken [] marked ≡ 0
unfolding signs_taken
none marked = refl

module _ {s : List ℕ} {at i : ℕ} {marked : Bool} (w : Signing s at i marked) where
  pub text_ended : length s ≤ i → i ≡ at + signs_taken (drop at s) false
  text_ended h = omega (arith, w.whole, ap (λ (l : List ℕ). signs_taken l marked) (drop_of_length-le s h) ∙ none marked)

  module _ (inside : i < length s) where
    -- `t` is what the code has been told of the byte
    module _ {t : Bool} (e : marked ≡ true) (told : t ≡ is_sign (get_or s i 0)) where
      pub no_sign : t ≡ false → i ≡ at + signs_taken (drop at s) false
      unfolding signs_taken
      no_sign f =
          let z : signs_taken (drop i s) marked ≡ 0 = rw (e, drop-cons s i 0) (simp (sym told ∙ f)) in
          omega (arith, w.whole)

      pub sign : t ≡ true → Signing s at (i + 1) false
      unfolding signs_taken
      sign f =
          let z : signs_taken (drop i s) marked ≡ suc (signs_taken (drop (suc i) s) false) = rw (e, drop-cons s i 0) (simp (sym told ∙ f)) in
          record { whole = rw (add-one i) (omega (arith, w.whole)) }

    pub plain : marked ≡ false → Signing s at (i + 1) (eqb (get_or s i 0) 64)
    unfolding signs_taken
    plain e =
        let z : signs_taken (drop i s) marked ≡ suc (signs_taken (drop (suc i) s) (eqb (get_or s i 0) 64)) = rw (e, drop-cons s i 0) in
        record { whole = rw (add-one i) (omega (arith, w.whole)) }
