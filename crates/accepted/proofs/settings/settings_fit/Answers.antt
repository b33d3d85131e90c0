-- `accepted::settings::settings_fit` meets its contract. Assumes nothing.
use mathlib.Core.Path.{sym, ◌∙◌}
use mathlib.Core.Bool.{true≢false}
use borrow.Author.Tests.{lt-leb}
use Rattle.accepted.proofs.AllZero.{zeros_are}
use Rattle.accepted.proofs.Setting.{coded, many, written, settings_are}
use Rattle.accepted.proofs.settings.settings_fit.Goals as goal
use Rattle.accepted.proofs.settings.settings_fit.Goals.{then-omits-le-OMITS, else-omits-le-OMITS, then-encode_fits, else-encode_fits}

pub returns-then-all_from : goal.returns-then-all_from
returns-then-all_from c =
    elim c.if-encode_fits.branch [
      | then-encode_fits w ↦ elim c.if-omits-le-OMITS.branch [
        | then-omits-le-OMITS v ↦
            settings_are _ c.from-omits.ensures v.encode_fits.ensures (sym v.value-is ∙ w.if-encode_fits.true) v.if-omits-le-OMITS.true
            (zeros_are _ w.all_from.ensures) (sym w.value-is ∙ c.if-all_from.true) c.extension_fits.ensures
        | else-omits-le-OMITS v ↦ absurd (true≢false (sym w.if-encode_fits.true ∙ (v.value-is ∙ lt-leb _ _ v.if-omits-le-OMITS.false)))
      ]
      | else-encode_fits w ↦ absurd (true≢false (sym c.if-all_from.true ∙ (w.value-is ∙ w.if-encode_fits.false)))
    ]

pub returns-else-all_from : goal.returns-else-all_from
returns-else-all_from c =
    c.if-all_from.false
    ∙ elim c.if-omits-le-OMITS.branch [
      | then-omits-le-OMITS v ↦ elim c.if-encode_fits.branch [
        | then-encode_fits w ↦
            written _ c.from-omits.ensures v.encode_fits.ensures (sym v.value-is ∙ w.if-encode_fits.true) v.if-omits-le-OMITS.true
            (zeros_are _ w.all_from.ensures) (sym w.value-is ∙ c.if-all_from.false)
        | else-encode_fits w ↦ coded _ c.from-omits.ensures v.encode_fits.ensures (sym v.value-is ∙ w.if-encode_fits.false)
      ]
      | else-omits-le-OMITS v ↦ many _ c.from-omits.ensures v.if-omits-le-OMITS.false
    ]
