-- THE TEST IS EXACT: a table passes it exactly if there is a text that compiles to it. Assumes nothing.
use Rattle.std.specs.Prelude.{Ok, Err}
use Prim.Native.Nat.{ℕ}
use mathlib.Core.Path.{◌≡◌, refl, sym, ap}
use mathlib.Core.Bool.{Bool, true, false}
use mathlib.Core.List.{List}
use borrow.Author.Tests.{eqb-true, eq-eqb}
use lib.Dec.{eqb}
use Rattle.reader.specs.Bytes.{all, same}
use Rattle.reader.proofs.Tests.{both_left, both_right, both}
use Rattle.reader.proofs.Same.{same_is, is_same}
use Rattle.language.specs.declared.Heads.{Heads}
use Rattle.language.specs.declared.Table.{Table}
use Rattle.language.specs.declared.Compiled.{Compiled}
use Rattle.language.specs.Script.{Script}
use Rattle.language.specs.Stretch.{stretch_of, largest}
use Rattle.language.specs.Listing.{listing}
use Rattle.language.specs.Right.{is_byte, settings_right, script_right}
use Rattle.language.specs.Draft.{Result, accepted, refused, result_of}
use Rattle.language.specs.Table.{laid_out, script_of}
use Rattle.language.specs.Answer.{CompilerAnswer, refusal_of, answered, script_from, compiled}
use Rattle.language.proofs.Good.{good}
use Rattle.language.proofs.Tables.{script_back}
use Rattle.language.proofs.Trip.{right_accepted, accepted_right}
use Rattle.accepted.specs.Accepted.{same_flag, same_heads, same_table, table_right}

flag_is : (a b : Bool) → same_flag a b ≡ true → a ≡ b
flag_is true b h = sym h
flag_is false true h = h
flag_is false false h = refl

flag_same : (a : Bool) → same_flag a a ≡ true
flag_same true = refl
flag_same false = refl

-- heads and a table from their parts: equal parts make equal wholes
abbrev pub made_heads : ℕ → List ℕ → ℕ → Bool → ℕ → Bool → ℕ → List ℕ → List ℕ → Heads
made_heads p es u c b two n o x =
    record { processes = p; ends = es; used = u; encodes = c; encode = b; two_stop_bits = two; omits = n; omit = o; extension = x }

pub heads_equal : {p p' u u' b b' n n' : ℕ} {es es' o o' x x' : List ℕ} {c c' two two' : Bool} → p ≡ p' → es ≡ es' → u ≡ u' → c ≡ c' → b ≡ b' → two ≡ two'
    → n ≡ n' → o ≡ o' → x ≡ x' → made_heads p es u c b two n o x ≡ made_heads p' es' u' c' b' two' n' o' x'
heads_equal e0 e1 e2 e3 e4 e5 e6 e7 e8 = cc

pub tables_equal : {ws ws' pool pool' : List ℕ} {h h' : Heads} → ws ≡ ws' → pool ≡ pool' → h ≡ h'
    → ◌≡◌ {A = Table} (record { cells = ws; pool = pool; heads = h }) (record { cells = ws'; pool = pool'; heads = h' })
tables_equal e0 e1 e2 = cc

heads_is : (h k : Heads) → same_heads h k ≡ true → h ≡ k
unfolding same_heads
heads_is h k e =
    let r0 = both_right (eqb h.processes k.processes) _ e in
    let r1 = both_right (same h.ends k.ends) _ r0 in
    let r2 = both_right (eqb h.used k.used) _ r1 in
    let r3 = both_right (same_flag h.encodes k.encodes) _ r2 in
    let r4 = both_right (eqb h.encode k.encode) _ r3 in
    let r5 = both_right (same_flag h.two_stop_bits k.two_stop_bits) _ r4 in
    let r6 = both_right (eqb h.omits k.omits) _ r5 in
    let e0 = eqb-true h.processes k.processes (both_left (eqb h.processes k.processes) _ e) in
    let e1 = same_is h.ends k.ends (both_left (same h.ends k.ends) _ r0) in
    let e2 = eqb-true h.used k.used (both_left (eqb h.used k.used) _ r1) in
    let e3 = flag_is h.encodes k.encodes (both_left (same_flag h.encodes k.encodes) _ r2) in
    let e4 = eqb-true h.encode k.encode (both_left (eqb h.encode k.encode) _ r3) in
    let e5 = flag_is h.two_stop_bits k.two_stop_bits (both_left (same_flag h.two_stop_bits k.two_stop_bits) _ r4) in
    let e6 = eqb-true h.omits k.omits (both_left (eqb h.omits k.omits) _ r5) in
    let e7 = same_is h.omit k.omit (both_left (same h.omit k.omit) _ r6) in
    let e8 = same_is h.extension k.extension (both_right (same h.omit k.omit) _ r6) in
    heads_equal e0 e1 e2 e3 e4 e5 e6 e7 e8

heads_same : (h : Heads) → same_heads h h ≡ true
unfolding same_heads
heads_same h =
    rw (
      eq-eqb h.processes h.processes refl,
      is_same {a = h.ends} refl,
      eq-eqb h.used h.used refl,
      flag_same h.encodes,
      eq-eqb h.encode h.encode refl,
      flag_same h.two_stop_bits,
      eq-eqb h.omits h.omits refl,
      is_same {a = h.omit} refl,
      is_same {a = h.extension} refl,
    )

table_is : (t u : Table) → same_table t u ≡ true → t ≡ u
unfolding same_table
table_is t u e =
    let r = both_right (same t.cells u.cells) _ e in
    let e0 = same_is t.cells u.cells (both_left (same t.cells u.cells) _ e) in
    let e1 = same_is t.pool u.pool (both_left (same t.pool u.pool) _ r) in
    let e2 = heads_is t.heads u.heads (both_right (same t.pool u.pool) _ r) in
    tables_equal e0 e1 e2

table_same : (t : Table) → same_table t t ≡ true
unfolding same_table
table_same t = rw (is_same {a = t.cells} refl, is_same {a = t.pool} refl, heads_same t.heads)

-- a table that passes is the one that its script is laid out in
pub laid_out_lem : (t : Table) → table_right t ≡ true → laid_out (script_of t) ≡ t
unfolding table_right
laid_out_lem t h = table_is (laid_out (script_of t)) t (both_left (same_table (laid_out (script_of t)) t) _ h)

pub script_right_lem : (t : Table) → table_right t ≡ true → script_right stretch_of (script_of t) ≡ true
unfolding table_right
script_right_lem t h = both_right (same_table (laid_out (script_of t)) t) _ h

-- the script of a right script's table is that script
pub script_of_lem : (s : Script) → script_right stretch_of s ≡ true → script_of (laid_out s) ≡ s
unfolding script_right
script_of_lem s h = let g = good stretch_of s h in script_back s (both_left (settings_right s.settings) _ h) g.rights g.bytes

pub laid_right : (s : Script) → script_right stretch_of s ≡ true → table_right (laid_out s) ≡ true
unfolding table_right
laid_right s h =
    let e = script_of_lem s h in
    both (same_table (laid_out (script_of (laid_out s))) (laid_out s)) _ (rw e (table_same (laid_out s))) (rw e h)

-- a text of bytes compiles to this table
pub record Compiles (t : Table) (text : List ℕ) : Type 0 where
  pub bytes : all is_byte text ≡ true
  pub stretch : ℕ
  pub result : compiled text ≡ record { answer = Ok stretch; table = t }

-- a table that passes is that of a text, the listing of its script
pub right_compiles : (t : Table) → table_right t ≡ true → Compiles t (listing (script_of t))
unfolding compiled script_from answered
right_compiles t h =
    let has = right_accepted stretch_of (script_of t) (script_right_lem t h) in
    record {
      bytes = has.bytes;
      stretch = largest (script_of t).body;
      result = rw has.result (ap (λ (u : Table). record { answer = Ok (largest (script_of t).body); table = u }) (laid_out_lem t h));
    }

-- and only such a table is
compiled_right : (r : Result) (text : List ℕ) (t : Table) (k : ℕ) → all is_byte text ≡ true → result_of stretch_of text ≡ r
    → answered r ≡ record { answer = Ok k; table = t } → table_right t ≡ true
unfolding answered
compiled_right (accepted s) text t k b e a =
    let right-s = accepted_right stretch_of s text (record { bytes = b; result = e }) in
    let same-table : laid_out s ≡ t = ap (λ (c : Compiled). c.table) a in
    rw same-table at (laid_right s right-s)
compiled_right (refused f row column) text t k b e a = let z : ◌≡◌ {A = CompilerAnswer} (Err (refusal_of f row column)) (Ok k) = ap (λ (c : Compiled). c.answer) a in cc

pub compiles_right : (t : Table) (text : List ℕ) → Compiles t text → table_right t ≡ true
unfolding compiled script_from
compiles_right t text c = compiled_right (result_of stretch_of text) text t c.stretch c.bytes refl c.result

pub right_exactly : (t : Table) → (table_right t ≡ true → (text : List ℕ) × Compiles t text) × (((text : List ℕ) × Compiles t text) → table_right t ≡ true)
right_exactly t = ((λ h. (listing (script_of t), right_compiles t h)), (λ p. compiles_right t p.0 p.1))
