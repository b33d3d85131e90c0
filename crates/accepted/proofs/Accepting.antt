-- The ways out of all tests together. Assumes nothing.
use Rattle.std.specs.Prelude.{Option, Some, None, Result, is_ok}
use Prim.Native.Nat.{ℕ, ◌≤◌, ◌<◌}
use mathlib.Core.Path.{◌≡◌, sym, ap, ◌∙◌}
use mathlib.Core.Bool.{Bool, true, false}
use native.Mathlib.Omega.{arith}
use lib.Dec.{leb}
use borrow.Author.Tests.{leb-true, le-leb, lt-leb}
use Rattle.reader.proofs.Tests.{both_left, both_right}
use Rattle.language.specs.declared.Heads.{Heads}
use Rattle.language.specs.declared.Table.{Table}
use Rattle.language.specs.Limits.{lines_limit, process_limit}
use Rattle.stretch.specs.declared.StretchFault.{StretchFault}
use Rattle.stretch.specs.Inside.Measured.{measured}
use Rattle.accepted.specs.Accepted.{table_right}
use Rattle.accepted.specs.Inside.Heads.{rising, ends_of, in_use, ends_right, settings_fit}
use Rattle.accepted.specs.Inside.Cells.{cells_fit}
use Rattle.accepted.specs.Inside.Lines.{cells_right, lines_in, fits, table_passes}
use Rattle.accepted.specs.Inside.EndsFit.{reaches}
use Rattle.accepted.proofs.Laying.{Typed, last_few}
use Rattle.accepted.proofs.Passing.{Bytes, decides}
use Rattle.accepted.proofs.EndsFit.{reached_not, Reached, reached_to}

-- ---- the heads

module _ (h : Heads) {r : Option ℕ} {n : ℕ} (told : r ≡ reaches (ends_right h) (in_use h)) (to : r ≡ Some n) where
  ended : Reached (ends_right h) (in_use h) n
  ended = reached_to _ _ n (sym told ∙ to)

  pub in_use_is : in_use h ≡ n
  in_use_is = ended.place

  pub some_process : 1 ≤ h.processes
  unfolding ends_right
  some_process = leb-true 1 h.processes (both_left (leb 1 h.processes) _ ended.test)

  pub in_use_few : n ≤ lines_limit
  unfolding ends_right
  in_use_few =
      let a = both_right (leb 1 h.processes) _ ended.test in
      let b = both_right (leb h.processes process_limit) _ a in
      let c = last_few (ends_of h) 0 (both_left (rising 0 (ends_of h)) _ b) (omega arith) in
      omega (arith, in_use_is)

-- ---- all tests

module _ (t : Table) (ty : Typed t) (by : Bytes t.heads) {r : Option ℕ} (told : r ≡ reaches (ends_right t.heads) (in_use t.heads)) where
  abbrev h : Heads
  h = t.heads

  -- what the tests come to is what decides
  tested : {v : Bool} → v ≡ table_passes t.cells t.pool h → v ≡ table_right t
  tested e = e ∙ decides t ty by

  pub not_ends : r ≡ None → false ≡ table_right t
  unfolding table_passes fits
  not_ends e = tested (rw (reached_not (ends_right h) _ (sym told ∙ e)))

  module _ {n : ℕ} (to : r ≡ Some n) {a : Bool} (fit : a ≡ cells_fit n t.cells t.pool h.used) where
    cells : a ≡ cells_right t.cells t.pool h
    cells = fit ∙ ap (λ (k : ℕ). cells_fit k t.cells t.pool h.used) (sym (in_use_is h told to))

    ends : ends_right h ≡ true
    ends = (reached_to _ _ n (sym told ∙ to)).test

    pub not_cells : a ≡ false → false ≡ table_right t
    unfolding table_passes fits
    not_cells e = tested (rw (ends, sym cells ∙ e))

    module _ (cells-so : a ≡ true) {b : Bool} (settings : b ≡ settings_fit h) where
      pub not_settings : b ≡ false → false ≡ table_right t
      unfolding table_passes fits
      not_settings e = tested (rw (ends, sym cells ∙ cells-so, sym settings ∙ e))

      module _ (settings-so : b ≡ true) {m : ℕ} (lines : m ≡ lines_in h) where
        pub not_lines : lines_limit < m → false ≡ table_right t
        unfolding table_passes fits
        not_lines l =
            let z : lines_limit < lines_in h = omega arith in
            tested (rw (ends, sym cells ∙ cells-so, sym settings ∙ settings-so, lt-leb (lines_in h) lines_limit z))

        module _ (few : m ≤ lines_limit) {x : Result ℕ StretchFault} (measure : x ≡ measured t.cells h) where
          pub as_measured : {v : Bool} → v ≡ is_ok x → v ≡ table_right t
          unfolding table_passes fits
          as_measured e =
              let z : lines_in h ≤ lines_limit = omega arith in
              tested (e ∙ rw (ends, sym cells ∙ cells-so, sym settings ∙ settings-so, le-leb (lines_in h) lines_limit z, sym measure))
