-- A table that bears a script: its processes have the script's statements, apart from each other; and a start. Assumes nothing.
use mathlib.Core.Path.{◌≡◌, refl, sym, ap, subst, ◌∙◌}
use mathlib.Core.Bool.{Bool, true, false, cond}
use mathlib.Core.List.{List, [], ◌∷◌, ◌++◌, map}
use Prim.Native.Nat.{ℕ, zero, suc, ◌+◌, ◌≤◌, ◌<◌}
use native.Mathlib.Nat.{le_refl}
use native.Mathlib.Numerals.{add-one}
use native.Mathlib.Decide.{dec_lt}
use native.Mathlib.Omega.{arith}
use lib.Dec.{ltb, leb}
use lib.ListN.{length, get_or, set, take, length-append, length-replicate, length-take, get_or-replicate, get_or-eq_default}
use lib.Seq.{slice, get_or-take, get_or-set_other}
use borrow.Author.Tests.{ltb-true, ltb-false, leb-true, lt-ltb, le-ltb}
use Rattle.reader.proofs.Tests.{both_left, both_right}
use Rattle.language.specs.declared.Heads.{Heads}
use Rattle.language.specs.declared.Table.{Table}
use Rattle.language.specs.declared.Compiled.{Compiled}
use Rattle.language.specs.Limits.{lines_limit, data_limit, process_limit}
use Rattle.language.specs.Script.{Statement, Item, next, Script, in_first, processes}
use Rattle.running.specs.Joined.{joined_in, done}
use Rattle.language.specs.Stretch.{stretch_of}
use Rattle.language.specs.Right.{script_right}
use Rattle.language.specs.Draft.{accepted}
use Rattle.language.specs.Table.{padded, pool_of, ends_from, heads_of, laid_out, items_of, body_from, script_of}
use Rattle.language.specs.Answer.{answered, script_from, compiled}
use Rattle.language.proofs.Good.{good}
use Rattle.language.proofs.Trip.{accepted_right}
use Rattle.stretch.specs.Marks as marks
use Rattle.accepted.specs.Inside.Heads.{ends_right}
use Rattle.accepted.proofs.Exactly.{script_of_lem}
use Rattle.accepted.proofs.Laid.{laid_ends}
use Rattle.process.specs.declared.Process.{Process}
use Rattle.process.specs.Waiting.{awake}
use Rattle.runner.specs.Starting.{started, started_from, no_counts}
use Rattle.bounded.specs.Replies.{Compiles}
use Rattle.bounded.specs.Demand3.{first_of, end_of}
use Rattle.bounded.proofs.Ahead.{opens_of}
use Rattle.bounded.proofs.Accepting.{Fitting, fitting}
use Rattle.running.specs.Running as script
use Rattle.running.proofs.From.{said, from}
use Rattle.running.proofs.Alike.{awake_waits, related_counts}
use Rattle.running.proofs.Turns.{AllOver, Alike, Alikes}

-- what a table has of the script that it was laid out from
pub record Bears (t : Table) (s : Script) (k : ℕ) : Type 0 where
  pub fits : Fitting t k
  pub script : script_of t ≡ s
  pub long : data_limit ≤ length t.pool
  pub ends : process_limit ≤ length t.heads.ends
  pub some : 1 ≤ t.heads.processes
  pub few : t.heads.processes ≤ process_limit

-- ---- from the text

padded_long : (n : ℕ) (l : List ℕ) → n ≤ length (padded n l)
padded_long n l = simp (length-append, length-replicate) (omega arith)

module _ (s : Script) (k : ℕ) (h : script_right stretch_of s ≡ true) (fit : Fitting (laid_out s) k) where
  abbrev heads : Heads
  heads = (laid_out s).heads

  er : ends_right heads ≡ true
  unfolding laid_out
  er = laid_ends stretch_of s (good stretch_of s h)

  laid_bears : Bears (laid_out s) s k
  laid_bears = record {
    fits = fit;
    script = script_of_lem s h;
    long = unfold laid_out in padded_long data_limit (pool_of s.body);
    ends = unfold laid_out heads_of in padded_long process_limit (ends_from 0 s.body);
    some = unfold ends_right in leb-true 1 heads.processes (both_left (leb 1 heads.processes) _ er);
    few = unfold ends_right in leb-true heads.processes process_limit (both_left (leb heads.processes process_limit) _ (both_right (leb 1 heads.processes) _ er));
  }

pub bears : {text : List ℕ} {t : Table} {k : ℕ} → Compiles text t k → (s : Script) → script_from text ≡ accepted s → Bears t s k
unfolding compiled script_from answered
bears {text} {t} {k} c s e =
    let same : laid_out s ≡ t = ap (λ (x : Compiled). x.table) (sym (ap answered e) ∙ c.result) in
    let right = accepted_right stretch_of s text (record { bytes = c.bytes; result = e }) in
    rw same at (laid_bears s k right (rw same (fitting c)))

-- ---- the processes of a table are those of its script

module _ (pool : List ℕ) where
  items_last : (ws : List ℕ) → processes (items_of pool ws) ≡ said pool ws ∷ []
  unfolding processes items_of in_first
  items_last [] = refl
  items_last (w ∷ ws) = rw (items_last ws)

  items_next : (ws : List ℕ) (is : List Item) → processes (items_of pool ws ++ next ∷ is) ≡ said pool ws ∷ processes is
  unfolding processes items_of in_first
  items_next [] is = refl
  items_next (w ∷ ws) is = rw (items_next ws is)

  unfoldable parts : List ℕ → ℕ → List ℕ → List (List Statement)
  parts ws i [] = []
  parts ws i (e ∷ es) = said pool (slice i e ws) ∷ parts ws e es

  body_parts : (ws : List ℕ) (i e : ℕ) (es : List ℕ) → processes (body_from pool ws i (e ∷ es)) ≡ parts ws i (e ∷ es)
  unfolding body_from parts
  body_parts ws i e [] = items_last (slice i e ws)
  body_parts ws i e (f ∷ es) = items_next (slice i e ws) (body_from pool ws e (f ∷ es)) ∙ ap (λ (l : List (List Statement)). said pool (slice i e ws) ∷ l) (body_parts ws e f es)

  parts_many : (ws : List ℕ) (i : ℕ) (es : List ℕ) → length (parts ws i es) ≡ length es
  unfolding parts
  parts_many ws i [] = refl
  parts_many ws i (e ∷ es) = ap suc (parts_many ws e es)

  -- the one after j others, where the first begins at i
  parts_at : (ws : List ℕ) (i : ℕ) (es : List ℕ) (j : ℕ) → j < length es → get_or (parts ws i es) j [] ≡ said pool (slice (get_or (i ∷ es) j 0) (get_or es j 0) ws)
  unfolding parts
  parts_at ws i [] j l = absurd (omega arith)
  parts_at ws i (e ∷ es) zero l = refl
  parts_at ws i (e ∷ es) (suc j) l = parts_at ws e es j (omega arith)

  body_some : (ws : List ℕ) (i : ℕ) (es : List ℕ) → 1 ≤ length es → processes (body_from pool ws i es) ≡ parts ws i es
  body_some ws i [] h = absurd (omega arith)
  body_some ws i (e ∷ es) h = body_parts ws i e es

-- a process with a place of its own is one of the table's
pub has_place : (h : Heads) (k j : ℕ) → j < end_of h k → k < h.processes
has_place h k j l = go (ltb k h.processes) refl l
  where
    go : (u : Bool) → ltb k h.processes ≡ u → j < cond u (marks.ends_at h k) 0 → k < h.processes
    go true e g = ltb-true k h.processes e
    go false e g = absurd (omega arith)

module _ (t : Table) (s : Script) (k : ℕ) (a : Bears t s k) where
  abbrev h : Heads
  h = t.heads

  -- ---- its processes

  abbrev ends : List ℕ
  ends = take h.processes h.ends

  ends_many : length ends ≡ h.processes
  ends_many = omega (arith, length-take h.processes h.ends, a.few, a.ends)

  stops_at : (j : ℕ) → j < h.processes → get_or ends j 0 ≡ marks.ends_at h j
  stops_at j l = get_or-take h.processes h.ends j 0 l

  begins_at_lem : (j : ℕ) → j < h.processes → get_or (0 ∷ ends) j 0 ≡ marks.begins_at h j
  begins_at_lem zero l = refl
  begins_at_lem (suc j) l = stops_at j (omega arith)

  processes_are : processes s.body ≡ parts t.pool t.cells 0 ends
  unfolding script_of
  processes_are = ap (λ (x : Script). processes x.body) (sym a.script) ∙ body_some t.pool t.cells 0 ends (omega (arith, ends_many, a.some))

  pub processes_many : length (processes s.body) ≡ h.processes
  processes_many = ap (λ (l : List (List Statement)). length l) processes_are ∙ parts_many t.pool t.cells 0 ends ∙ ends_many

  -- the statements of process i stand at its own places; one that the table does not have has none
  pub process_is : (i : ℕ) → get_or (processes s.body) i [] ≡ said t.pool (slice (first_of h i) (end_of h i) t.cells)
  process_is i = go (ltb i h.processes) refl
    where
      go : (u : Bool) → ltb i h.processes ≡ u → get_or (processes s.body) i [] ≡ said t.pool (slice (cond u (marks.begins_at h i) 0) (cond u (marks.ends_at h i) 0) t.cells)
      go true e =
          let l = ltb-true i h.processes e in
          ap (λ (ps : List (List Statement)). get_or ps i []) processes_are
          ∙ parts_at t.pool t.cells 0 ends i (omega (arith, ends_many))
          ∙ rw (begins_at_lem i l, stops_at i l)
      go false e = get_or-eq_default (processes s.body) [] {n = i} (omega (arith, processes_many, ltb-false i h.processes e))

  -- ---- a start

  over_started : (m i : ℕ) → h.processes ≤ i → AllOver (started_from h i m)
  unfolding started_from started awake
  over_started zero i l = tt
  over_started (suc m) i l = (rw (le-ltb i h.processes l), over_started m (i + 1) (omega arith))

  start_one : (i : ℕ) → i < h.processes → Alike t i no_counts (started h i) (script.at_first (from t.cells t.pool (marks.ends_at h i) (marks.begins_at h i)))
  unfolding started opens_of
  start_one i l =
      let own = (a.fits.sound i).own in
      let yes-i = lt-ltb i h.processes l in
      let inside : marks.ends_at h i ≤ length t.cells = rw yes-i at own.inside in
      let small : marks.ends_at h i ≤ lines_limit = rw yes-i at own.small in
      rw yes-i (record {
        ends = refl;
        coming = refl;
        loops = refl;
        wait = awake_waits t.cells t.pool (marks.ends_at h i) inside (marks.begins_at h i);
        counted = λ j z low high e. sym (get_or-replicate lines_limit j 0 0 (omega arith));
      })

  starts : (m i first : ℕ) (es : List ℕ) → i + length es ≡ h.processes → length es ≤ m → first ≡ marks.begins_at h i →
      ((j : ℕ) → j < length es → get_or es j 0 ≡ marks.ends_at h (i + j)) →
      Alikes t no_counts i (started_from h i m) (map script.at_first (map joined_in (parts t.pool t.cells first es)))
  unfolding started_from parts from
  starts m i first [] n l b e = over_started m i (omega arith)
  starts zero i first (x ∷ es) n l b e = absurd (omega arith)
  starts (suc m) i first (x ∷ es) n l b e =
      let zero-i : i + 0 ≡ i = omega arith in
      let here : x ≡ marks.ends_at h i = e 0 (omega arith) ∙ rw zero-i in
      let next-first : x ≡ marks.begins_at h (i + 1) = rw (add-one i) here in (
        rw (b, here) (start_one i (omega (arith, n))),
        subst (λ (j : ℕ). Alikes t no_counts j (started_from h (i + 1) m) (map script.at_first (map joined_in (parts t.pool t.cells x es)))) (add-one i)
            (starts m (i + 1) x es (omega (arith, n)) (omega arith) next-first
            (λ j d. let z : i + suc j ≡ i + 1 + j = omega arith in e (suc j) (omega arith) ∙ rw z)),
      )

  -- a start makes the box stand for the script
  pub start_alike : Alikes t no_counts 0 (started_from h 0 process_limit) (map script.at_first (done s.body))
  unfolding done
  start_alike =
      rw processes_are
      (starts process_limit 0 0 ends (omega (arith, ends_many)) (omega (arith, ends_many, a.few)) refl
      (λ j d. let z : 0 + j ≡ j = omega arith in stops_at j (omega (arith, ends_many)) ∙ rw z))

  -- ---- the processes lie apart

  order : (j : ℕ) → j < h.processes → marks.begins_at h j ≤ marks.ends_at h j
  order j l = rw (lt-ltb j h.processes l) at (a.fits.sound j).order

  rises : (i j : ℕ) → i < j → j < h.processes → marks.ends_at h i ≤ marks.begins_at h j
  rises i zero l g = absurd (omega arith)
  rises i (suc j) l g = elim (dec_lt i j) [
    | yes d ↦ omega (arith, rises i j d (omega arith), order j (omega arith))
    | no d ↦ let e : i ≡ j = omega arith in rw e (le_refl (marks.ends_at h j))
  ]

  -- a place of one is no place of another
  pub apart : (i j x y : ℕ) → (j ≡ i → ⊥) → first_of h i ≤ x → x < end_of h i → first_of h j ≤ y → y < end_of h j → y ≡ x → ⊥
  apart i j x y n a₁ b₁ a₂ b₂ e = go (ltb i h.processes) refl (ltb j h.processes) refl a₁ b₁ a₂ b₂
    where
      go : (u : Bool) → ltb i h.processes ≡ u → (v : Bool) → ltb j h.processes ≡ v → cond u (marks.begins_at h i) 0 ≤ x → x < cond u (marks.ends_at h i) 0 →
          cond v (marks.begins_at h j) 0 ≤ y → y < cond v (marks.ends_at h j) 0 → ⊥
      go true p true q c₁ d₁ c₂ d₂ = elim (dec_lt i j) [
        | yes d ↦ omega (arith, rises i j d (ltb-true j h.processes q))
        | no d ↦ let l : j < i = omega arith in omega (arith, rises j i l (ltb-true i h.processes p))
      ]
      go true p false q c₁ d₁ c₂ d₂ = omega arith
      go false p v q c₁ d₁ c₂ d₂ = omega arith

  -- so a count that is set at a place of process i is no count of another's
  pub counts_apart : (counts : List ℕ) (i x v : ℕ) → first_of h i ≤ x → x < end_of h i → (j : ℕ) → (j ≡ i → ⊥) → (p : Process) (q : script.Process) →
      Alike t j counts p q → Alike t j (set counts x v) p q
  counts_apart counts i x v l g j n p q r =
      related_counts t.cells t.pool (first_of h j) (end_of h j) counts (set counts x v)
      (λ y a₂ b₂. get_or-set_other counts x y v 0 (apart i j x y n l g a₂ b₂)) p q r
