-- What an accepted script's table has: for each process, cells that fit, loops that nest, and no run longer than the stretch reported. Assumes nothing.
use mathlib.Core.Path.{◌≡◌, refl, sym, ap, ◌∙◌}
use mathlib.Core.Bool.{Bool, true, false, cond, ◌&&◌}
use mathlib.Core.List.{List, [], ◌∷◌}
use Prim.Native.Nat.{ℕ, ◌≤◌, ◌<◌}
use native.Mathlib.Nat.{le_refl, le_trans}
use native.Mathlib.Omega.{arith}
use lib.Dec.{ltb, leb, eqb}
use lib.ListN.{length, take, drop, length-append, length-replicate, length-take}
use lib.Seq.{get_or-take}
use borrow.Author.Tests.{ltb-true, leb-true, eqb-true}
use Rattle.std.specs.Prelude as std
use Rattle.std.specs.Prelude.{Ok, Err, is_ok}
use Rattle.reader.specs.Bytes.{all}
use Rattle.reader.proofs.Tests.{both_left, both_right, both, true_is_false}
use Rattle.figures.specs.Flat.{fragments, marks_nest}
use Rattle.figures.specs.Inside.Scan.{fragment_at}
use Rattle.figures.specs.Written.{written, run, longest_run}
use Rattle.figures.specs.Cap.{limit}
use Rattle.language.specs.declared.Heads.{Heads}
use Rattle.language.specs.declared.Table.{Table}
use Rattle.language.specs.declared.Compiled.{Compiled}
use Rattle.language.specs.Limits.{lines_limit, data_limit, omit_limit, process_limit}
use Rattle.language.specs.Script.{Statement, Script, processes}
use Rattle.language.specs.Stretch.{stretch_of, largest_of, largest}
use Rattle.language.specs.Right as right
use Rattle.language.specs.Right.{is_byte, settings_right, all_below, script_right}
use Rattle.language.specs.Draft.{Result, accepted, refused, result_of}
use Rattle.language.specs.Table.{padded, words_from, ends_from, heads_of, laid_out, script_of}
use Rattle.language.specs.Answer.{CompilerAnswer, refusal_of, answered, script_from, compiled}
use Rattle.language.proofs.Good.{Good, good}
use Rattle.language.proofs.Trip.{accepted_right}
use Rattle.stretch.specs.declared.StretchFault.{StretchFault}
use Rattle.stretch.specs.Marks.{marks_between, begins_at, ends_at, marks_to}
use Rattle.stretch.specs.Inside.Measured.{measured}
use Rattle.stretch.specs.Reported.{AtMost}
use Rattle.stretch.proofs.Marking.{marks_between_lem}
use Rattle.stretch.proofs.Places.{measured_each}
use Rattle.stretch.proofs.Verdicts.{Answers, measured_script, measured_right}
use Rattle.accepted.specs.Accepted.{table_right}
use Rattle.accepted.specs.Inside.Heads.{all_zero, rising, ends_of, in_use, ends_right, settings_fit}
use Rattle.accepted.specs.Inside.Cells.{cells_fit, words_fit, words_end}
use Rattle.accepted.specs.Inside.Lines.{cells_right}
use Rattle.accepted.proofs.Exactly.{script_of_lem, laid_right}
use Rattle.accepted.proofs.Laid.{laid_ends, laid_cells, laid_settings}
use Rattle.bounded.specs.Replies.{Compiles}
use Rattle.bounded.specs.Demand3.{first_of, end_of}
use Rattle.bounded.proofs.Moves.{Own}
use Rattle.bounded.proofs.ProcessCells.{slice_fits, Between, rising_at, get_d_first}

-- a process that begins at `first` and ends before `end`
pub record Sound (cells pool : List ℕ) (k first end : ℕ) : Type 0 where
  pub own : Own cells pool end
  pub order : first ≤ end
  pub nested : marks_nest 0 (drop first (marks_to cells end)) ≡ true
  pub most : (m : ℕ) → longest_run (written m (fragment_at (marks_to cells end) first)) ≤ k

-- all of a table that the runner needs
pub record Fitting (t : Table) (k : ℕ) : Type 0 where
  pub started : table_right t ≡ true
  pub bounded : k ≤ limit
  pub reported : largest (script_of t).body ≡ k
  pub measures : measured t.cells t.heads ≡ Ok k
  pub omitted : t.heads.omits ≤ omit_limit
  pub sound : (i : ℕ) → Sound t.cells t.pool k (first_of t.heads i) (end_of t.heads i)

-- a process that the table does not have
none : (cells pool : List ℕ) (k : ℕ) → Sound cells pool k 0 0
unfolding marks_nest written run fragments
none cells pool k = record {
  own = record { inside = omega arith; small = omega arith; fits = λ i h. absurd (omega arith) };
  order = le_refl 0;
  nested = refl;
  most = λ m. omega arith;
}

padded_long : (n : ℕ) (l : List ℕ) → n ≤ length (padded n l)
padded_long n l = simp (length-append, length-replicate) (omega arith)

largest_below : (ps : List (List Statement)) → all_below stretch_of ps ≡ true → largest_of ps ≤ limit
unfolding all_below largest_of
largest_below [] h = omega arith
largest_below (p ∷ ps) h =
    omega (arith, leb-true (stretch_of p) limit (both_left (leb (stretch_of p) limit) _ h), largest_below ps (both_right (leb (stretch_of p) limit) _ h))

module _ (s : Script) (h : script_right stretch_of s ≡ true) where
  abbrev t : Table
  t = laid_out s

  abbrev hs : Heads
  hs = t.heads

  g : Good stretch_of s
  g = good stretch_of s h

  cells_long : lines_limit ≤ length t.cells
  unfolding laid_out
  cells_long = padded_long lines_limit (words_from 0 s.body)

  ends_long : process_limit ≤ length hs.ends
  unfolding laid_out heads_of
  ends_long = padded_long process_limit (ends_from 0 s.body)

  er : ends_right hs ≡ true
  unfolding laid_out
  er = laid_ends stretch_of s g

  cr : cells_right t.cells t.pool hs ≡ true
  unfolding laid_out
  cr = laid_cells stretch_of s g

  sf : settings_fit hs ≡ true
  unfolding laid_out script_right
  sf = laid_settings stretch_of s g (both_left (settings_right s.settings) _ h)

  omits_few : hs.omits ≤ omit_limit
  unfolding settings_fit
  omits_few = leb-true hs.omits omit_limit (both_left (leb hs.omits omit_limit) _ (both_right (cond hs.encodes true (eqb hs.encode 0)) _ sf))

  -- ---- the ends

  some : 1 ≤ hs.processes
  unfolding ends_right
  some = leb-true 1 hs.processes (both_left (leb 1 hs.processes) _ er)

  few : hs.processes ≤ process_limit
  unfolding ends_right
  few = leb-true hs.processes process_limit (both_left (leb hs.processes process_limit) _ (both_right (leb 1 hs.processes) _ er))

  rises : rising 0 (ends_of hs) ≡ true
  unfolding ends_right
  rises = both_left (rising 0 (ends_of hs)) _ (both_right (leb hs.processes process_limit) _ (both_right (leb 1 hs.processes) _ er))

  ends_many : length (ends_of hs) ≡ hs.processes
  ends_many = omega (arith, length-take hs.processes hs.ends, few, ends_long)

  between : (i : ℕ) → i < hs.processes → Between (begins_at hs i) (ends_at hs i) (in_use hs)
  between i l = rw (get_d_first hs.processes hs.ends i l, get_or-take hs.processes hs.ends i 0 l) at (rising_at (ends_of hs) 0 i rises (omega (arith, ends_many)))

  -- ---- the words

  fit : words_fit t.pool 0 (take (in_use hs) t.cells) ≡ true
  unfolding cells_fit
  fit = both_left (words_fit t.pool 0 (take (in_use hs) t.cells)) _ cr

  bytes_few : words_end 0 (take (in_use hs) t.cells) ≤ data_limit
  unfolding cells_fit
  bytes_few =
      let e : ℕ = words_end 0 (take (in_use hs) t.cells) in
      let r₁ = both_right (words_fit t.pool 0 (take (in_use hs) t.cells)) _ cr in
      let r₂ = both_right (all_zero (drop (in_use hs) t.cells)) _ r₁ in
      let same = eqb-true hs.used e (both_left (eqb hs.used e) _ r₂) in
      let low = leb-true hs.used data_limit (both_left (leb hs.used data_limit) _ (both_right (eqb hs.used e) _ r₂)) in
      omega arith

  -- ---- the stretch

  measured_is : measured t.cells hs ≡ Ok (largest s.body)
  measured_is = go (measured t.cells hs) (measured_script s g.rights g.bytes g.nested) is_ok_lem
    where
      is_ok_lem : is_ok (measured t.cells hs) ≡ true
      is_ok_lem =
          measured_right t (omega (arith, ends_many, some))
          ∙ ap (λ (x : Script). right.nests x.body 0 && all_below stretch_of (processes x.body)) (script_of_lem s h)
          ∙ both (right.nests s.body 0) _ g.nested g.below

      go : (r : std.Result ℕ StretchFault) → Answers s r → is_ok r ≡ true → r ≡ Ok (largest s.body)
      go (Ok k) a e = ap (λ (n : ℕ). Ok n) a.1
      go (Err f) a e = true_is_false (sym e)

  sound_at : (i : ℕ) → i < hs.processes → Sound t.cells t.pool (largest s.body) (begins_at hs i) (ends_at hs i)
  sound_at i l =
      let b = between i l in
      let w : AtMost (marks_between t.cells (begins_at hs i) (ends_at hs i)) (largest s.body) = measured_each t.cells hs i l (omega (arith, few, ends_long)) measured_is in
      record {
        own = record {
          inside = omega (arith, b.small, cells_long);
          small = b.small;
          fits = λ j lt. slice_fits t.cells t.pool j (ends_at hs i) (in_use hs) b.most fit bytes_few;
        };
        order = b.order;
        nested = rw (marks_between_lem t.cells (ends_at hs i) (begins_at hs i)) w.fits.nested;
        most = λ m. rw (marks_between_lem t.cells (ends_at hs i) (begins_at hs i)) (le_trans (w.fits.exact.most m) w.most);
      }

  sound_any : (i : ℕ) (b : Bool) → ltb i hs.processes ≡ b →
      Sound t.cells t.pool (largest s.body) (cond b (begins_at hs i) 0) (cond b (ends_at hs i) 0)
  sound_any i true e = sound_at i (ltb-true i hs.processes e)
  sound_any i false e = none t.cells t.pool (largest s.body)

  script_fitting : Fitting t (largest s.body)
  unfolding largest
  script_fitting = record {
    started = laid_right s h;
    bounded = largest_below (processes s.body) g.below;
    reported = ap (λ (x : Script). largest x.body) (script_of_lem s h);
    measures = measured_is;
    omitted = omits_few;
    sound = λ i. sound_any i (ltb i hs.processes) refl;
  }

-- ---- from the text

fitting_from : (r : Result) (text : List ℕ) (t : Table) (k : ℕ) → all is_byte text ≡ true → result_of stretch_of text ≡ r →
    answered r ≡ record { answer = Ok k; table = t } → Fitting t k
unfolding answered
fitting_from (accepted s) text t k b e a =
    let same-table : laid_out s ≡ t = ap (λ (c : Compiled). c.table) a in
    let same_answer : ◌≡◌ {A = CompilerAnswer} (Ok (largest s.body)) (Ok k) = ap (λ (c : Compiled). c.answer) a in
    let same-stretch : largest s.body ≡ k = cc in
    rw (same-table, same-stretch) at (script_fitting s (accepted_right stretch_of s text (record { bytes = b; result = e })))
fitting_from (refused f row column) text t k b e a =
    let z : ◌≡◌ {A = CompilerAnswer} (Err (refusal_of f row column)) (Ok k) = ap (λ (c : Compiled). c.answer) a in
    let y : ◌≡◌ {A = ℕ} 0 1 = cc in
    absurd (omega arith)

pub fitting : {text : List ℕ} {t : Table} {k : ℕ} → Compiles text t k → Fitting t k
unfolding compiled script_from
fitting {text} {t} {k} c = fitting_from (result_of stretch_of text) text t k c.bytes refl c.result
