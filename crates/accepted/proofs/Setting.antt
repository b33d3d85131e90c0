-- What the tests of the settings come to. Assumes nothing.
use Prim.Native.Nat.{ℕ, ◌≤◌, ◌<◌}
use mathlib.Core.Path.{◌≡◌, sym, ◌∙◌}
use mathlib.Core.Bool.{Bool, true, false, cond}
use borrow.Author.Tests.{le-leb, lt-leb}
use lib.Dec.{eqb}
use lib.ListN.{drop}
use Rattle.reader.proofs.Tests.{and_false}
use Rattle.language.specs.declared.Heads.{Heads}
use Rattle.language.specs.Limits.{omit_limit}
use Rattle.accepted.specs.Inside.Heads.{all_zero, extension_fits, settings_fit}

module _ (h : Heads) {n : ℕ} (omits : n ≡ h.omits) where
  pub many : omit_limit < n → false ≡ settings_fit h
  unfolding settings_fit
  many l = rw (sym omits, lt-leb n omit_limit l) (sym (and_false (cond h.encodes true (eqb h.encode 0))))

  module _ {a : Bool} (code : a ≡ cond h.encodes true (eqb h.encode 0)) where
    pub coded : a ≡ false → false ≡ settings_fit h
    unfolding settings_fit
    coded e = rw (sym code ∙ e)

    module _ (fits : a ≡ true) (few : n ≤ omit_limit) {z : Bool} (zeros : z ≡ all_zero (drop n h.omit)) where
      pub written : z ≡ false → false ≡ settings_fit h
      unfolding settings_fit
      written e = rw (sym code ∙ fits, sym omits, le-leb n omit_limit few, sym zeros ∙ e)

      pub settings_are : z ≡ true → {x : Bool} → x ≡ extension_fits h.extension → x ≡ settings_fit h
      unfolding settings_fit
      settings_are e k = k ∙ rw (sym code ∙ fits, sym omits, le-leb n omit_limit few, sym zeros ∙ e)
