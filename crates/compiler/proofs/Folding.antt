-- The states of the two loops of `take_lines`, and what each turn makes of them. Assumes nothing.
use Rattle.std.specs.Prelude as std
use Rattle.std.specs.Prelude.{Ok, Err}
use Rattle.language.specs.declared.Refusal.{Refusal}
use Prim.Native.Nat.{ℕ, ◌+◌, ◌-◌, ◌≤◌, ◌<◌}
use mathlib.Core.Path.{◌≡◌, refl, sym, ap, subst, ◌∙◌}
use mathlib.Core.Bool.{Bool, true, false}
use mathlib.Core.List.{List, [], ◌∷◌}
use native.Mathlib.Omega.{arith}
use lib.Dec.{ltb}
use lib.ListN.{length, get_or, drop, replicate}
use borrow.Author.Tests.{ltb-true, ltb-false, lt-ltb, le-leb}
use Rattle.reader.specs.Ascii.{ascii}
use Rattle.reader.specs.Bytes.{all}
use Rattle.language.specs.declared.TextFault.TheVariants.{LineTooLong, BadRest}
use Rattle.language.specs.declared.Heads.{Heads}
use Rattle.language.specs.Limits.{text_limit, line_limit, loop_limit, process_places, loop_places, cell_places, pool_places, omit_places}
use Rattle.language.specs.Lines.{drop_cr, lines_of}
use Rattle.language.specs.Script.{Item, does, next, default, data_of}
use Rattle.language.specs.Stretch.{stretch_of}
use Rattle.language.specs.Right.{in_line}
use Rattle.language.specs.Column.{column_in}
use Rattle.language.specs.Draft.{Result, refused, Draft, start, LineTaken, going, stop, take_line, go_on, finished, fold, result_of}
use Rattle.language.specs.Table.{words_from, pool_of, ends_from, heads_of}
use Rattle.language.specs.Answer.{answered, script_from, compiled}
use Rattle.language.specs.Listing.{body_lines}
use Rattle.language.proofs.Folding.{items_length}
use Rattle.language.proofs.Cutting.{NoLf, cr_length, AllInLine}
use Rattle.language.proofs.Sound.{Holds, line_on, start_sound}
use Rattle.language.proofs.SoundBody.{Sound, needs_listed}
use Rattle.compiler.specs.declared.drafting.Drafting.{Drafting}
use Rattle.compiler.specs.declared.drafting.Stop.{Stop}
use Rattle.compiler.specs.Inside.Drafting.{Step, script_in, stacked, IsDraft, Took, Takes, Ready}
use Rattle.compiler.specs.Inside.Ending.{Ended, Answered}
use Rattle.compiler.specs.Inside.Text.{part, clear_from, EndsAt}
use Rattle.compiler.proofs.Texts.{part_none, part_length, no_lines_lem, in_lines, no_lf_joined, clear_fits, clear_past, feed_ends, text_ends, begins, first_lines}
use Rattle.compiler.proofs.Lining.{bad_rest_short}

-- at the head of the loop over lines: the whole is the fold over the lines from `from` on, with what stands of the draft so far
pub record Folding (s : List ℕ) (w : Drafting) (row from : ℕ) : Type 0 where
  pub st : Draft
  pub sound : Sound 0 st
  pub stands : IsDraft st w
  pub rows : row ≤ from + 1
  pub whole : compiled s ≡ answered (fold stretch_of (lines_of (drop from s)) row st)

-- at the head of the loop over a line's bytes: none up to `e` is an LF
pub record Scanning (s : List ℕ) (w : Drafting) (row from e : ℕ) : Type 0 where
  pub folding : Folding s w row from
  pub text : from < length s
  pub begun : from ≤ e
  pub upto : e ≤ length s
  pub clean : NoLf (part s from e)

-- after that loop, and the search in the bytes that it leaves: the line is whole, and the others come after it
pub record Lined (s : List ℕ) (w : Drafting) (row from e : ℕ) : Type 0 where
  pub folding : Folding s w row from
  pub begun : from ≤ e
  pub upto : e ≤ length s
  pub cut : lines_of (drop from s) ≡ drop_cr (part s from e) ∷ lines_of (drop (e + 1) s)

-- ---- before the first line

-- the draft before the first line
abbrev no_draft : Drafting
no_draft =
    record {
      counted = 0;
      written = 0;
      opened = 0;
      loops = replicate loop_places 0;
      begun = false;
      table =
          record {
            cells = replicate cell_places 0;
            pool = replicate pool_places 0;
            heads =
                record {
                  processes = 1;
                  ends = replicate process_places 0;
                  used = 0;
                  encodes = false;
                  encode = 0;
                  two_stop_bits = false;
                  omits = 0;
                  omit = replicate omit_places 0;
                  extension = ascii "LOG";
                };
          };
    }

pub nothing : IsDraft start no_draft
unfolding start default words_from pool_of ends_from heads_of stacked
nothing =
    record {
      counted = refl;
      written = refl;
      opened = refl;
      long = refl;
      loops = refl;
      begun = refl;
      heads = refl;
      used = refl;
      count = refl;
      words = refl;
      bytes = refl;
    }

pub first : (s : List ℕ) {w : Drafting} → length s ≤ text_limit → IsDraft start w → Folding s w 1 0
unfolding compiled script_from result_of
first s h d = record { st = start; sound = start_sound; stands = d; rows = omega arith; whole = rw (le-leb (length s) text_limit h) }

-- ---- what the code may count on

-- a body has a line for each of its cells
cells_few : (at : ℕ) (is : List Item) → length (words_from at is) ≤ length is
unfolding words_from
cells_few at [] = omega arith
cells_few at (does s ∷ is) = omega (arith, cells_few (at + length (data_of s)) is)
cells_few at (next ∷ is) = omega (arith, cells_few at is)

body_few : (is : List Item) → length is ≤ length (body_lines is)
unfolding body_lines
body_few [] = omega arith
body_few (does s ∷ is) = omega (arith, items_length (does s ∷ is))
body_few (next ∷ is) = omega (arith, items_length (next ∷ is))

pub ready : {s : List ℕ} {w : Drafting} {row from : ℕ} → Folding s w row from → Ready w
unfolding heads_of
ready {s} {w} f =
    let st = f.st in
    let processes : w.table.heads.processes ≡ length (ends_from 0 st.body) = ap (λ (x : Heads). x.processes) f.stands.heads in
    record {
      room = omega (arith, f.stands.written, f.stands.counted, cells_few 0 st.body, f.sound.lines, needs_listed st.begun st.body, body_few st.body);
      deep = omega (arith, f.stands.opened, f.sound.deep);
      some = omega (arith, f.stands.count, f.sound.count);
      few = omega (arith, f.stands.count, f.sound.few);
    }

-- where a line goes on, and where it stops
record Onward (l : List ℕ) (t : LineTaken) (go : Draft → Result) (w : Drafting) : Type 0 where
  st : Draft
  sound : Sound 0 st
  stands : IsDraft st w
  is : go_on l t go ≡ go st

onward : (l : List ℕ) (t : LineTaken) (go : Draft → Result) (w : Drafting) → Holds t → Took t (Ok tt) w → Onward l t go w
unfolding go_on
onward l (going st) go w h k = record { st = st; sound = h; stands = k.1; is = refl }
onward l (stop f n) go w h k = absurd (cc)

no_further : (l : List ℕ) (t : LineTaken) (go : Draft → Result) (x : Stop) (w : Drafting) → Took t (Err x) w → go_on l t go ≡ refused x.fault x.row (column_in l x.fault)
unfolding go_on
no_further l (going st) go x w k = let e = k.0 in absurd (cc)
no_further l (stop f n) go x w k =
    let fault : f ≡ x.fault = cc in
    let row : n ≡ x.row = cc in
    rw (fault, row)

module _ {s : List ℕ} {w : Drafting} {row from : ℕ} where
  -- no line is left
  pub ended : (f : Folding s w row from) → length s ≤ from → compiled s ≡ answered (finished stretch_of (script_in f.st) f.st.loops)
  unfolding fold
  ended f h = f.whole ∙ ap (λ (ls : List (List ℕ)). answered (fold stretch_of ls row f.st)) (no_lines_lem s from h)

  -- a line is begun
  pub opened : Folding s w row from → from < length s → Scanning s w row from from
  opened f h = record { folding = f; text = h; begun = omega arith; upto = omega arith; clean = rw (part_none s from) }

  module _ {m : ℕ} (g : Scanning s w row from m) where
    -- sixteen bytes more hold no LF
    pub passed : clear_from s m ≡ true → Scanning s w row from (m + 16)
    passed h = record { folding = g.folding; text = g.text; begun = omega (arith, g.begun); upto = clear_fits s m h; clean = clear_past s from m g.begun h g.clean }

    -- the line ends at an LF or at the end of the text
    pub at_end_lem : {e : ℕ} → EndsAt s m e → Lined s w row from e
    at_end_lem {e} x = record { folding = g.folding; begun = begun; upto = x.upto; cut = go (ltb e (length s)) refl }
      where
        begun : from ≤ e
        begun = omega (arith, g.begun, x.begun)

        clean : NoLf (part s from e)
        clean = no_lf_joined s from m e g.begun x.begun g.clean x.clear

        go : (t : Bool) → ltb e (length s) ≡ t → lines_of (drop from s) ≡ drop_cr (part s from e) ∷ lines_of (drop (e + 1) s)
        go true t = let h : e < length s = ltb-true e (length s) t in feed_ends s from e begun h (x.feed h) clean
        go false t = text_ends s from e begun (ltb-false e (length s) t) x.upto g.text clean

    -- "line over 127": so many bytes and no LF, nor one among sixteen more
    pub overlong : clear_from s m ≡ true → line_limit < m - from → compiled s ≡ answered (refused LineTooLong row (column_in [] LineTooLong))
    unfolding fold take_line go_on column_in
    overlong h k =
        let f = g.folding in
        let q = passed h in
        let b = begins s from (m + 16) q.begun (omega (arith, g.begun)) q.upto q.clean in
        let long : line_limit < length (drop_cr b.first) = omega (arith, cr_length b.first, b.long, part_length s from (m + 16) q.begun q.upto) in
        f.whole
        ∙ ap (λ (ls : List (List ℕ)). answered (fold stretch_of ls row f.st)) (first_lines s from (m + 16) q.begun b)
        ∙ rw (lt-ltb line_limit (length (drop_cr b.first)) long)

  -- the line without its CR
  module _ {e : ℕ} (l : List ℕ) (g : Lined s w row from e) (bytes : (i : ℕ) → get_or s i 0 < 256) (cr : l ≡ drop_cr (part s from e)) where
    lines : lines_of (drop from s) ≡ l ∷ lines_of (drop (e + 1) s)
    lines = g.cut ∙ rw (sym cr)

    pub in_line_lem : all in_line l ≡ true
    in_line_lem = (subst AllInLine lines (in_lines s from bytes)).0

    line_whole : compiled s ≡ answered (go_on l (take_line row g.folding.st l) (λ st₁. fold stretch_of (lines_of (drop (e + 1) s)) (row + 1) st₁))
    unfolding fold
    line_whole = g.folding.whole ∙ ap (λ (ls : List (List ℕ)). answered (fold stretch_of ls row g.folding.st)) lines

    -- what the code has found that it does
    module _ (r : Step) (w' : Drafting) (took : Takes (λ st. take_line row st l) w r w') where
      found : Took (take_line row g.folding.st l) r w'
      found = took g.folding.st g.folding.stands

      pub goes_on_lem : r ≡ Ok tt → Folding s w' (row + 1) (e + 1)
      goes_on_lem k =
          let t : LineTaken = take_line row g.folding.st l in
          let o = onward l t (λ st₁. fold stretch_of (lines_of (drop (e + 1) s)) (row + 1) st₁) w' (line_on row g.folding.st l in_line_lem g.folding.sound) (rw k at found) in
          record { st = o.st; sound = o.sound; stands = o.stands; rows = omega (arith, g.folding.rows, g.begun); whole = line_whole ∙ ap answered o.is }

      pub short : {x : Stop} → r ≡ Err x → x.fault ≡ BadRest → length l ≤ line_limit
      short {x} k b = bad_rest_short row g.folding.st l x w' (rw k at found) b

      pub refuses : {x : Stop} → r ≡ Err x → compiled s ≡ answered (refused x.fault x.row (column_in l x.fault))
      refuses {x} k = line_whole ∙ ap answered (no_further l (take_line row g.folding.st l) _ x w' (rw k at found))

-- ---- after the loop over the lines

module _ {s : List ℕ} (w : Drafting) where
  pub all_taken : {row from : ℕ} {r : std.Result (Unit {0}) Refusal} → Folding s w row from → length s ≤ from → r ≡ Ok tt → Answered s w r
  all_taken f h e =
      record {
        none = λ _. record { st = f.st; sound = f.sound; stands = f.stands; whole = ended f h };
        some = λ x k. absurd (cc);
      }

  pub at_fault : (x : Refusal) → compiled s ≡ answered (refused x.fault x.line x.column) → Answered s w (Err x)
  at_fault x c =
      record {
        none = λ k. absurd (cc);
        some = λ y k. let same : x ≡ y = cc in rw same at c;
      }

-- the loops that are left open have their places
pub deep : {s : List ℕ} {w : Drafting} → Ended s w → w.opened ≤ loop_limit
deep e = omega (arith, e.stands.opened, e.sound.deep)
