-- THE TESTS DECIDE: the tests that the code goes through are the exact test of a table. Assumes nothing.
use Prim.Native.Nat.{ℕ, ◌≤◌, ◌<◌}
use mathlib.Core.Path.{◌≡◌, refl, sym, ap, ◌∙◌}
use mathlib.Core.Bool.{Bool, true, false, cond}
use native.Mathlib.Omega.{arith}
use lib.Dec.{leb, eqb}
use lib.ListN.{length, take, drop, length-take}
use borrow.Author.Tests.{leb-true, le-leb, lt-ltb}
use Rattle.reader.specs.Bytes.{all}
use Rattle.reader.proofs.Tests.{both_left, both_right, both, all_take}
use Rattle.language.specs.declared.Heads.{Heads}
use Rattle.language.specs.declared.Table.{Table}
use Rattle.language.specs.Limits.{lines_limit, data_limit, omit_limit, process_limit}
use Rattle.language.specs.Script.{unset, byte, Script, processes}
use Rattle.language.specs.Stretch.{stretch_of}
use Rattle.language.specs.Meaning.{extension}
use Rattle.language.specs.Right.{is_byte, encode_right, settings_right, all_right, data_in, nexts_in, nests, all_below, script_right}
use Rattle.language.specs.Table.{heads_of, laid_out, body_from, letters_of, settings_of, script_of}
use Rattle.language.proofs.Good.{Good, good}
use Rattle.language.proofs.Tables.{pool_length}
use Rattle.stretch.proofs.Verdicts.{measured_right}
use Rattle.accepted.specs.Accepted.{table_right}
use Rattle.accepted.specs.Inside.Heads.{all_zero, ends_of, ends_right, settings_fit}
use Rattle.accepted.specs.Inside.Lines.{cells_right, lines_in, fits, table_passes}
use Rattle.accepted.proofs.Exactly.{laid_out_lem, script_right_lem, laid_right}
use Rattle.accepted.proofs.Counting.{ends_count}
use Rattle.accepted.proofs.Laying.{Typed, processes_some, processes_few, whole, used_is, used_few, ends_long, laid, lines_are}
use Rattle.accepted.proofs.Laid.{laid_ends, laid_cells, laid_settings}

-- the bytes of the heads are bytes
pub record Bytes (h : Heads) : Type 0 where
  pub encode : h.encode < 256
  pub omit : all is_byte h.omit ≡ true

encode_right_lem : (t : Bool) (b : ℕ) → b < 256 → encode_right (cond t (byte b) unset) ≡ true
unfolding encode_right is_byte
encode_right_lem true b h = lt-ltb b 256 h
encode_right_lem false b h = refl

settings_of_lem : (s : Script) → script_right stretch_of s ≡ true → settings_right s.settings ≡ true
unfolding script_right
settings_of_lem s h = both_left (settings_right s.settings) _ h

heads_of_lem : (s : Script) {t : Table} → laid_out s ≡ t → heads_of s ≡ t.heads
unfolding laid_out
heads_of_lem s e = ap (λ (u : Table). u.heads) e

module _ (t : Table) (ty : Typed t) (by : Bytes t.heads) where
  abbrev h : Heads
  h = t.heads

  module _ (er : ends_right h ≡ true) (cr : cells_right t.cells t.pool h ≡ true) (sf : settings_fit h ≡ true) where
    some : 0 < length (ends_of h)
    some = omega (arith, ends_long t ty er cr, processes_some t ty er cr)

    settings_right_lem : settings_right (script_of t).settings ≡ true
    unfolding settings_right script_of settings_of settings_fit
    settings_right_lem =
        let s₁ = both_right (cond h.encodes true (eqb h.encode 0)) _ sf in
        let s₂ = both_right (leb h.omits omit_limit) _ s₁ in
        let s₃ = both_right (all_zero (drop h.omits h.omit)) _ s₂ in
        let few : length (take h.omits h.omit) ≤ omit_limit =
        simp length-take (omega (arith, leb-true h.omits omit_limit (both_left (leb h.omits omit_limit) _ s₁)))
        in
        rw (encode_right_lem h.encodes h.encode by.encode, all_take is_byte h.omits h.omit by.omit, le-leb (length (take h.omits h.omit)) omit_limit few)
        (both_left (extension (letters_of h.extension)) _ s₃)

    rights : all_right (script_of t).body ≡ true
    unfolding script_of
    rights = (whole t ty er cr).walk.rights

    nexts : nexts_in (script_of t).body < process_limit
    unfolding script_of
    nexts =
        let w = whole t ty er cr in
        omega (arith, ends_count (body_from t.pool t.cells 0 (ends_of h)) 0, ap length w.ends, ends_long t ty er cr, processes_few t ty er cr)

    bytes_few : data_in (script_of t).body ≤ data_limit
    bytes_few = omega (arith, pool_length (script_of t).body, used_is t ty er cr, used_few t ty er cr)

    right_script : leb (lines_in h) lines_limit ≡ true → nests (script_of t).body 0 ≡ true → all_below stretch_of (processes (script_of t).body) ≡ true
        → script_right stretch_of (script_of t) ≡ true
    unfolding script_right
    right_script lines nested below =
        rw (settings_right_lem, rights, lines_are t ty er cr sf, lines, le-leb (data_in (script_of t).body) data_limit bytes_few, nested, lt-ltb (nexts_in (script_of t).body) process_limit nexts, below)

  -- a table that passes is one of a right script
  passed : table_passes t.cells t.pool h ≡ true → table_right t ≡ true
  unfolding table_passes fits
  passed p =
      let f = both_left (fits t.cells t.pool h) _ p in
      let er = both_left (ends_right h) _ f in
      let f₁ = both_right (ends_right h) _ f in
      let cr = both_left (cells_right t.cells t.pool h) _ f₁ in
      let f₂ = both_right (cells_right t.cells t.pool h) _ f₁ in
      let sf = both_left (settings_fit h) _ f₂ in
      let lines = both_right (settings_fit h) _ f₂ in
      let measure = sym (measured_right t (some er cr sf)) ∙ both_right (fits t.cells t.pool h) _ p in
      let s : Script = script_of t in
      let below = both_right (nests s.body 0) _ measure in
      let nested = both_left (nests s.body 0) _ measure in
      rw (laid t ty er cr sf) at (laid_right s (right_script er cr sf lines nested below))

  -- and such a table passes
  passing : table_right t ≡ true → table_passes t.cells t.pool h ≡ true
  unfolding table_passes fits
  passing r =
      let s : Script = script_of t in
      let e : laid_out s ≡ t = laid_out_lem t r in
      let right-s = script_right_lem t r in
      let g : Good stretch_of s = good stretch_of s right-s in
      let heads : heads_of s ≡ h = heads_of_lem s e in
      let er : ends_right h ≡ true = rw heads at (laid_ends stretch_of s g) in
      let cr : cells_right t.cells t.pool h ≡ true = rw (e, heads) at (laid_cells stretch_of s g) in
      let sf : settings_fit h ≡ true = rw heads at (laid_settings stretch_of s g (settings_of_lem s right-s)) in
      let lines : lines_in h ≤ lines_limit = rw (lines_are t ty er cr sf) at g.lines in
      rw (er, cr, sf, le-leb (lines_in h) lines_limit lines)
      (measured_right t (some er cr sf) ∙ both (nests s.body 0) _ g.nested g.below)

  pub decides : table_passes t.cells t.pool h ≡ table_right t
  decides = same_truth (table_passes t.cells t.pool h) (table_right t) passed passing
    where
      same_truth : (a b : Bool) → (a ≡ true → b ≡ true) → (b ≡ true → a ≡ true) → a ≡ b
      same_truth true b f g = sym (f refl)
      same_truth false true f g = g refl
      same_truth false false f g = refl
