-- What is answered of a table, in the words of the language: of any table that has a process, and of the table of a right script. Assumes nothing.
use mathlib.Core.Path.{◌≡◌, refl, ap, sym, subst, ◌∙◌}
use mathlib.Core.Bool.{Bool, true, false, cond, ◌&&◌}
use mathlib.Core.List.{List, [], ◌∷◌, map}
use Prim.Native.Nat.{ℕ, ◌+◌, ◌-◌, ◌≤◌, ◌<◌, max}
use native.Mathlib.Omega.{arith}
use lib.Dec.{leb}
use lib.ListN.{length, take, replicate}
use lib.Seq.{take_at}
use Rattle.reader.proofs.Tests.{both_left, both_right, by_cases}
use Rattle.figures.specs.Flat as flat
use Rattle.figures.specs.Cap.{limit}
use Rattle.language.specs.declared.TextFault.TheVariants.{StretchTooLong}
use Rattle.language.specs.declared.Table.{Table}
use Rattle.language.specs.Limits.{data_limit, process_limit}
use Rattle.language.specs.Script.{Statement, Item, does, next, Script, processes, default}
use Rattle.language.specs.Stretch.{mark_of, stretch_of, largest_of, largest}
use Rattle.language.specs.Meaning.{is_capital, extension}
use Rattle.language.specs.Draft.{accepted, refused_whole, stretched}
use Rattle.language.specs.Right.{encode_right, settings_right, all_right, data_in, nests, all_below}
use Rattle.language.specs.Table.{ends_from, heads_of, laid_out, script_of}
use Rattle.language.proofs.Tables.{script_back}
use Rattle.std.specs.Prelude.{Result, Ok, Err, is_ok}
use Rattle.stretch.specs.declared.StretchFault.{StretchFault}
use Rattle.stretch.specs.declared.StretchFault.TheVariants.{Over, Broken}
use Rattle.stretch.specs.Marks.{processes_of}
use Rattle.stretch.specs.Inside.Measured.{measured_from, measured}
use Rattle.stretch.proofs.Scripts.{marks_of, table_marks, all_nest, nests_processes}

-- what an answer says of processes that are told by their statements, `best` being the largest stretch and `number` - 1 the number of those before
abbrev Verdict : Script → List (List Statement) → ℕ → ℕ → Result ℕ StretchFault → Type 0
Verdict s ps number best (Ok k) = (stretched stretch_of ps number s ≡ accepted s) × (k ≡ max best (largest_of ps))
Verdict s ps number best (Err (Over n)) = stretched stretch_of ps number s ≡ refused_whole StretchTooLong n
Verdict s ps number best (Err Broken) = ⊥

verdict_more : (s : Script) (p : List Statement) (ps : List (List Statement)) (number best : ℕ) (r : Result ℕ StretchFault) → leb (stretch_of p) limit ≡ true
    → Verdict s ps (number + 1) (max best (stretch_of p)) r → Verdict s (p ∷ ps) number best r
unfolding stretched largest_of
verdict_more s p ps number best (Ok k) l v = (rw l v.0, omega (arith, v.1))
verdict_more s p ps number best (Err (Over n)) l v = rw l v
verdict_more s p ps number best (Err Broken) l v = v

verdict : (s : Script) (ps : List (List Statement)) (number best : ℕ) → all_nest 0 (marks_of ps) ≡ true
    → Verdict s ps number best (measured_from number best (marks_of ps))
unfolding measured_from all_nest stretched largest_of stretch_of
verdict s [] number best h = (refl, omega arith)
verdict s (p ∷ ps) number best h =
    rw (both_left (flat.marks_nest 0 (map mark_of p)) _ h)
    (by_cases (Verdict s (p ∷ ps) number best) (leb (stretch_of p) limit) _ _
    (λ l.
    let best' : ℕ = max best (stretch_of p) in
    verdict_more s p ps number best (measured_from (number + 1) best' (marks_of ps)) l (verdict s ps (number + 1) best' (both_right (flat.marks_nest 0 (map mark_of p)) _ h)))
    (λ l. rw l))

-- ---- the table of a right script

some_end : (is : List Item) (i : ℕ) → 0 < length (ends_from i is)
unfolding ends_from
some_end [] i = omega arith
some_end (does s ∷ is) i = some_end is (i + 1)
some_end (next ∷ is) i = omega arith

-- what an answer says of a script: it is accepted, and that is its largest stretch; or it is refused at this process
abbrev pub Answers : Script → Result ℕ StretchFault → Type 0
Answers s (Ok k) = (stretched stretch_of (processes s.body) 1 s ≡ accepted s) × (k ≡ largest s.body)
Answers s (Err (Over n)) = stretched stretch_of (processes s.body) 1 s ≡ refused_whole StretchTooLong n
Answers s (Err Broken) = ⊥

answers : (s : Script) (r : Result ℕ StretchFault) → Verdict s (processes s.body) 1 0 r → Answers s r
unfolding largest
answers s (Ok k) v = (v.0, omega (arith, v.1))
answers s (Err (Over n)) v = v
answers s (Err Broken) v = v

module _ (s : Script) (rights : all_right s.body ≡ true) (bytes : data_in s.body ≤ data_limit) where
  -- the settings do not matter for it
  bare : Script
  bare = record { settings = default; body = s.body }

  bare_back : script_of (laid_out bare) ≡ bare
  unfolding bare default settings_right encode_right extension is_capital
  bare_back = script_back bare refl rights bytes

  has_process : 0 < length (take (laid_out s).heads.processes (laid_out s).heads.ends)
  unfolding laid_out heads_of
  has_process =
      let es : List ℕ = ends_from 0 s.body in
      rw (take_at es (replicate (process_limit - length es) 0) (length es) refl) (some_end s.body 0)

  pub script_marks : processes_of (laid_out s).cells (laid_out s).heads ≡ marks_of (processes s.body)
  unfolding bare laid_out heads_of processes_of
  script_marks = table_marks (laid_out bare) has_process ∙ ap (λ (x : Script). marks_of (processes x.body)) bare_back

  module _ (nested : nests s.body 0 ≡ true) where
    pub measured_script : Answers s (measured (laid_out s).cells (laid_out s).heads)
    measured_script =
        rw script_marks
        (answers s (measured_from 1 0 (marks_of (processes s.body))) (verdict s (processes s.body) 1 0 (sym (nests_processes s.body 0) ∙ nested)))

    -- by the answer, as the code finds it
    pub script_largest : {k : ℕ} → measured (laid_out s).cells (laid_out s).heads ≡ Ok k
        → (stretched stretch_of (processes s.body) 1 s ≡ accepted s) × (k ≡ largest s.body)
    script_largest e = subst (Answers s) e measured_script

    pub script_over : {n : ℕ} → measured (laid_out s).cells (laid_out s).heads ≡ Err (Over n) → stretched stretch_of (processes s.body) 1 s ≡ refused_whole StretchTooLong n
    script_over e = subst (Answers s) e measured_script

    pub script_nests : measured (laid_out s).cells (laid_out s).heads ≡ Err Broken → ⊥
    script_nests e = subst (Answers s) e measured_script

-- ---- any table that has a process

right_more : (n l : Bool) (number : ℕ) (r : Result ℕ StretchFault) (a b : Bool) → is_ok r ≡ (a && b)
    → is_ok (cond n (cond l r (Err (Over number))) (Err Broken)) ≡ ((n && a) && (l && b))
right_more true true number r a b h = h
right_more true false number r true b h = refl
right_more true false number r false b h = refl
right_more false l number r a b h = refl

right_from : (ps : List (List Statement)) (number best : ℕ)
    → is_ok (measured_from number best (marks_of ps)) ≡ (all_nest 0 (marks_of ps) && all_below stretch_of ps)
unfolding measured_from all_nest all_below flat.marks_nest stretch_of
right_from [] number best = refl
right_from (p ∷ ps) number best =
    right_more (flat.marks_nest 0 (map mark_of p)) (leb (stretch_of p) limit) number _ _ _ (right_from ps (number + 1) (max best (stretch_of p)))

module _ (t : Table) (some : 0 < length (take t.heads.processes t.heads.ends)) where
  -- its script's loops nest and no stretch is too long just when there is a largest
  pub measured_right : is_ok (measured t.cells t.heads) ≡ (nests (script_of t).body 0 && all_below stretch_of (processes (script_of t).body))
  measured_right = rw (table_marks t some, nests_processes (script_of t).body 0) (right_from (processes (script_of t).body) 1 0)

  -- and that is its script's
  pub measured_table : {k : ℕ} → measured t.cells t.heads ≡ Ok k → Answers (script_of t) (Ok k)
  measured_table {k} e =
      let s : Script = script_of t in
      let nested : nests s.body 0 ≡ true = both_left (nests s.body 0) _ (sym measured_right ∙ ap is_ok e) in
      let r : measured_from 1 0 (marks_of (processes s.body)) ≡ Ok k = ap (measured_from 1 0) (sym (table_marks t some)) ∙ e in
      answers s (Ok k) (subst (Verdict s (processes s.body) 1 0) r (verdict s (processes s.body) 1 0 (sym (nests_processes s.body 0) ∙ nested)))
