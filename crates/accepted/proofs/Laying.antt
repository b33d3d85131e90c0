-- A table that passes the tests is the one that its script is laid out in. Assumes nothing.
use Prim.Native.Nat.{ℕ, ◌+◌, ◌-◌, ◌≤◌}
use mathlib.Core.Path.{◌≡◌, refl, sym, ap, ap₂, ◌∙◌}
use mathlib.Core.Bool.{Bool, true, false, cond}
use mathlib.Core.List.{List, [], ◌∷◌, ◌++◌}
use native.Mathlib.Omega.{arith}
use lib.Dec.{leb, eqb}
use lib.ListN.{length, get_or, take, drop, replicate, length-append, length-take, length-drop, take-append-drop}
use lib.Seq.{length-take-le, get_or-take}
use borrow.Author.Tests.{leb-true, eqb-true}
use Rattle.reader.proofs.Tests.{both_left, both_right}
use Rattle.language.specs.declared.Heads.{Heads}
use Rattle.language.specs.declared.Table.{Table}
use Rattle.language.specs.Limits.{lines_limit, data_limit, omit_limit, process_limit}
use Rattle.language.specs.Script.{unset, byte, Item}
use Rattle.language.specs.Meaning.{extension}
use Rattle.language.specs.Listing.{listed_lines}
use Rattle.language.specs.Table.{padded, words_from, pool_of, encodes, encode_byte_of, heads_of, laid_out, body_from, letters_of, settings_of, script_of}
use Rattle.accepted.specs.Inside.Heads.{all_zero, rising, last_end, ends_of, in_use, ends_right, settings_fit, first_empty, settings_in}
use Rattle.accepted.specs.Inside.Cells.{cells_fit, words_fit, words_end}
use Rattle.accepted.specs.Inside.Lines.{cells_right, lines_in}
use Rattle.accepted.proofs.Exactly.{heads_equal, tables_equal}
use Rattle.accepted.proofs.Bodies.{Body, body}
use Rattle.accepted.proofs.Counting.{settings_length, items_count, ends_count, lines_count}

-- ---- zeros after a list

zeros_are : (l : List ℕ) → all_zero l ≡ true → l ≡ replicate (length l) 0
unfolding all_zero
zeros_are [] h = refl
zeros_are (b ∷ l) h = ap₂ (λ (x : ℕ) (r : List ℕ). x ∷ r) (eqb-true b 0 (both_left (eqb b 0) _ h)) (zeros_are l (both_right (eqb b 0) _ h))

-- a list with zeros from n on is its first n elements, padded
pub pad_take : (n k : ℕ) (l : List ℕ) → length l ≡ k → n ≤ k → all_zero (drop n l) ≡ true → padded k (take n l) ≡ l
pad_take n k l e h z =
    let long : length (take n l) ≡ n = length-take-le n l (omega arith) in
    let rest : length (drop n l) ≡ k - n = simp length-drop (omega arith) in
    let tail : drop n l ≡ replicate (k - n) 0 = zeros_are (drop n l) z ∙ ap (λ (m : ℕ). replicate m 0) rest in
    rw (long, ← tail) (take-append-drop n l)

-- and so are some elements in front of such a rest
pub pad_front : (k : ℕ) (a r l : List ℕ) → length l ≡ k → l ≡ a ++ r → all_zero r ≡ true → padded k a ≡ l
pad_front k a r l e h z =
    let n : length a + length r ≡ k = omega (arith, e, simp length-append at (ap length h)) in
    let m : k - length a ≡ length r = omega arith in
    rw m (ap (λ (x : List ℕ). a ++ x) (sym (zeros_are r z)) ∙ sym h)

-- ---- settings

letters_take : (l : List ℕ) → letters_of l ≡ take (length (letters_of l)) l
unfolding letters_of
letters_take [] = refl
letters_take (b ∷ l) = go (eqb b 0) (letters_take l)
  where
    go : (t : Bool) → letters_of l ≡ take (length (letters_of l)) l → cond t [] (b ∷ letters_of l) ≡ take (length (cond t [] (b ∷ letters_of l))) (b ∷ l)
    go true e = refl
    go false e = ap (λ (r : List ℕ). b ∷ r) e

letters_few : (l : List ℕ) → length (letters_of l) ≤ length l
letters_few l = let e = ap length (letters_take l) ∙ length-take (length (letters_of l)) l in omega arith

encode_flag : (t : Bool) (b : ℕ) → encodes (cond t (byte b) unset) ≡ t
encode_flag true b = refl
encode_flag false b = refl

encode_byte_lem : (t : Bool) (b : ℕ) → cond t true (eqb b 0) ≡ true → encode_byte_of (cond t (byte b) unset) ≡ b
encode_byte_lem true b h = refl
encode_byte_lem false b h = sym (eqb-true b 0 h)

-- the arrays have their lengths
pub record Typed (t : Table) : Type 0 where
  pub cells : length t.cells ≡ lines_limit
  pub pool : length t.pool ≡ data_limit
  pub ends : length t.heads.ends ≡ process_limit
  pub omit : length t.heads.omit ≡ omit_limit
  pub extension : length t.heads.extension ≡ 3

-- ---- the body

-- at least one process
some_ends : (n : ℕ) (l : List ℕ) → 1 ≤ n → 1 ≤ length l → take n l ≡ [] → ⊥
some_ends n l h k e = let z = sym (length-take n l) ∙ ap length e in omega arith

pub last_few : (es : List ℕ) (i : ℕ) → rising i es ≡ true → i ≤ lines_limit → last_end i es ≤ lines_limit
unfolding rising last_end
last_few [] i r l = l
last_few (e ∷ es) i r l =
    let q = both_right (leb i e) _ r in
    last_few es e (both_right (leb e lines_limit) _ q) (leb-true e lines_limit (both_left (leb e lines_limit) _ q))

module _ (t : Table) (ty : Typed t) where
  abbrev h : Heads
  h = t.heads

  module _ (er : ends_right h ≡ true) (cr : cells_right t.cells t.pool h ≡ true) where
    pub processes_some : 1 ≤ h.processes
    unfolding ends_right
    processes_some = leb-true 1 h.processes (both_left (leb 1 h.processes) _ er)

    pub processes_few : h.processes ≤ process_limit
    unfolding ends_right
    processes_few = leb-true h.processes process_limit (both_left (leb h.processes process_limit) _ (both_right (leb 1 h.processes) _ er))

    pub ends_rise : rising 0 (ends_of h) ≡ true
    unfolding ends_right
    ends_rise = both_left (rising 0 (ends_of h)) _ (both_right (leb h.processes process_limit) _ (both_right (leb 1 h.processes) _ er))

    ends_zero : all_zero (drop h.processes h.ends) ≡ true
    unfolding ends_right
    ends_zero = both_right (rising 0 (ends_of h)) _ (both_right (leb h.processes process_limit) _ (both_right (leb 1 h.processes) _ er))

    words_fit_lem : words_fit t.pool 0 (take (in_use h) t.cells) ≡ true
    unfolding cells_fit
    words_fit_lem = both_left (words_fit t.pool 0 (take (in_use h) t.cells)) _ cr

    pub whole : Body t.pool t.cells 0 0 (ends_of h)
    whole = go (ends_of h) ends_rise words_fit_lem (some_ends h.processes h.ends processes_some (omega (arith, ty.ends)))
      where
        go : (es : List ℕ) → rising 0 es ≡ true → words_fit t.pool 0 (take (last_end 0 es) t.cells) ≡ true → (es ≡ [] → ⊥) → Body t.pool t.cells 0 0 es
        go [] r f none = absurd (none refl)
        go (e ∷ es) r f none = body t.pool t.cells ty.pool ty.cells e es 0 0 r f

    -- ---- the whole

    laid_cells : padded lines_limit (words_from 0 (script_of t).body) ≡ t.cells
    unfolding script_of cells_fit
    laid_cells =
        let z = both_left (all_zero (drop (in_use h) t.cells)) _ (both_right (words_fit t.pool 0 (take (in_use h) t.cells)) _ cr) in
        let few : in_use h ≤ lines_limit = last_few (ends_of h) 0 ends_rise (omega arith) in
        rw whole.walk.words (pad_take (in_use h) lines_limit t.cells ty.cells few z)

    pub used_is : h.used ≡ length (pool_of (script_of t).body)
    unfolding script_of cells_fit
    used_is =
        let r = both_right (all_zero (drop (in_use h) t.cells)) _ (both_right (words_fit t.pool 0 (take (in_use h) t.cells)) _ cr) in
        let e = eqb-true h.used (words_end 0 (take (in_use h) t.cells)) (both_left (eqb h.used (words_end 0 (take (in_use h) t.cells))) _ r) in
        omega (arith, e, whole.walk.size)

    pub used_few : h.used ≤ data_limit
    unfolding cells_fit
    used_few =
        let r = both_right (all_zero (drop (in_use h) t.cells)) _ (both_right (words_fit t.pool 0 (take (in_use h) t.cells)) _ cr) in
        leb-true h.used data_limit (both_left (leb h.used data_limit) _ (both_right (eqb h.used (words_end 0 (take (in_use h) t.cells))) _ r))

    laid_pool : padded data_limit (pool_of (script_of t).body) ≡ t.pool
    unfolding script_of cells_fit
    laid_pool =
        let r = both_right (all_zero (drop (in_use h) t.cells)) _ (both_right (words_fit t.pool 0 (take (in_use h) t.cells)) _ cr) in
        let q = both_right (eqb h.used (words_end 0 (take (in_use h) t.cells))) _ r in
        let e = eqb-true h.used (words_end 0 (take (in_use h) t.cells)) (both_left (eqb h.used (words_end 0 (take (in_use h) t.cells))) _ r) in
        pad_front data_limit (pool_of (script_of t).body) (drop h.used t.pool) t.pool ty.pool
        (rw e whole.walk.bytes)
        (both_right (leb h.used data_limit) _ q)

    pub ends_long : length (ends_of h) ≡ h.processes
    ends_long = length-take-le h.processes h.ends (omega (arith, ty.ends, processes_few))

    laid_heads : settings_fit h ≡ true → heads_of (script_of t) ≡ h
    unfolding script_of heads_of settings_of settings_fit
    laid_heads sf =
        let s₁ = both_right (cond h.encodes true (eqb h.encode 0)) _ sf in
        let s₂ = both_right (leb h.omits omit_limit) _ s₁ in
        let s₃ = both_right (all_zero (drop h.omits h.omit)) _ s₂ in
        let few : h.omits ≤ omit_limit = leb-true h.omits omit_limit (both_left (leb h.omits omit_limit) _ s₁) in
        let letters = letters_take h.extension in
        heads_equal
        (rw whole.ends ends_long)
        (rw whole.ends (pad_take h.processes process_limit h.ends ty.ends processes_few ends_zero))
        (sym used_is)
        (encode_flag h.encodes h.encode)
        (encode_byte_lem h.encodes h.encode (both_left (cond h.encodes true (eqb h.encode 0)) _ sf))
        refl
        (length-take-le h.omits h.omit (omega (arith, ty.omit)))
        (pad_take h.omits omit_limit h.omit ty.omit few (both_left (all_zero (drop h.omits h.omit)) _ s₂))
        (ap (padded 3) letters ∙ pad_take (length (letters_of h.extension)) 3 h.extension ty.extension (omega (arith, letters_few h.extension, ty.extension)) (both_right (extension (letters_of h.extension)) _ s₃))

    pub laid : settings_fit h ≡ true → laid_out (script_of t) ≡ t
    unfolding laid_out
    laid sf = tables_equal laid_cells laid_pool (laid_heads sf)

    pub lines_are : settings_fit h ≡ true → length (listed_lines (script_of t)) ≡ lines_in h
    unfolding lines_in settings_in first_empty
    lines_are sf =
        lines_count (script_of t)
        ∙ rw (settings_length (script_of t).settings)
        (unfold script_of settings_of settings_fit in
        let s₁ = both_right (cond h.encodes true (eqb h.encode 0)) _ sf in
        let few : h.omits ≤ omit_limit = leb-true h.omits omit_limit (both_left (leb h.omits omit_limit) _ s₁) in
        let first : get_or (ends_of h) 0 0 ≡ get_or h.ends 0 0 = get_or-take h.processes h.ends 0 0 processes_some in
        let cells : length (take (in_use h) t.cells) ≡ in_use h = length-take-le (in_use h) t.cells (omega (arith, ty.cells, last_few (ends_of h) 0 ends_rise (omega arith))) in
        let b : List Item = body_from t.pool t.cells 0 (ends_of h) in
        let items : length b ≡ in_use h + (h.processes - 1) =
        omega (arith, items_count b 0, ap length whole.walk.words, cells, ends_count b 0, ap length whole.ends, ends_long)
        in
        rw (encode_flag h.encodes h.encode, length-take-le h.omits h.omit (omega (arith, ty.omit)), whole.ends, ends_long, first, items))
