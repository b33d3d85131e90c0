-- THE LINES OF A JOINED LISTING ARE THE LISTED LINES, if none of them holds an LF. A line may end in CR: only the one that the
-- listing adds is dropped. And the laws of cutting a text into lines: for a loop over it, and for portions. Assumes nothing.
use Prim.Native.Nat.{ℕ, ◌+◌, ◌≤◌, ◌<◌}
use mathlib.Core.Path.{◌≡◌, refl, sym, ap, ◌∙◌}
use mathlib.Core.Bool.{Bool, true, false, cond, not}
use mathlib.Core.List.{List, [], ◌∷◌, ◌++◌}
use native.Mathlib.Omega.{arith}
use lib.Dec.{eqb}
use lib.ListN.{length}
use lib.Seq.{append_snoc}
use Rattle.reader.specs.Bytes.{all}
use Rattle.reader.proofs.Tests.{both_left, both_right, all_append, both, by_cases}
use Rattle.language.specs.Lines.{drop_cr, in_front, raw_lines, each_line, lines_of}
use Rattle.language.specs.Listing.{with_line_ends}
use Rattle.language.specs.Right.{is_byte, in_line}
use Rattle.language.proofs.Bytes.{not-true, all_so}

-- ---- the laws that a loop over the text goes by

-- no byte is an LF
abbrev pub NoLf : List ℕ → Type 0
NoLf l = all (λ b. not (eqb b 10)) l ≡ true

-- the first byte is none, and the rest holds none
not_lf : (b : ℕ) (l : List ℕ) → NoLf (b ∷ l) → eqb b 10 ≡ false
not_lf b l h = not-true (eqb b 10) (both_left (not (eqb b 10)) (all (λ c. not (eqb c 10)) l) h)

no_further : (b : ℕ) (l : List ℕ) → NoLf (b ∷ l) → NoLf l
no_further b l h = both_right (not (eqb b 10)) (all (λ c. not (eqb c 10)) l) h

raw_ended : (l s : List ℕ) → NoLf l → raw_lines (l ++ 10 ∷ s) ≡ l ∷ raw_lines s
unfolding raw_lines in_front
raw_ended [] s h = refl
raw_ended (b ∷ l) s h = rw (not_lf b l h, raw_ended l s (no_further b l h))

raw_last : (b : ℕ) (l : List ℕ) → NoLf (b ∷ l) → raw_lines (b ∷ l) ≡ (b ∷ l) ∷ []
unfolding raw_lines in_front
raw_last b [] h = rw (not_lf b [] h)
raw_last b (c ∷ l) h = rw (not_lf b (c ∷ l) h) (ap (in_front b) (raw_last c l (no_further b (c ∷ l) h)))

-- an LF ends a line, and so does the end of the text, if the line has begun
pub line_ended_lem : (l s : List ℕ) → NoLf l → lines_of (l ++ 10 ∷ s) ≡ drop_cr l ∷ lines_of s
unfolding lines_of each_line
line_ended_lem l s h = rw (raw_ended l s h)

pub line_last : (b : ℕ) (l : List ℕ) → NoLf (b ∷ l) → lines_of (b ∷ l) ≡ drop_cr (b ∷ l) ∷ []
unfolding lines_of each_line
line_last b l h = rw (raw_last b l h)

-- bytes with no LF among them are the front of a line
pub record Begun (l s : List ℕ) : Type 0 where
  pub first : List ℕ
  pub others : List (List ℕ)
  pub lines : lines_of (l ++ s) ≡ drop_cr first ∷ others
  pub long : length l ≤ length first

front_of_lem : (b : ℕ) (ls : List (List ℕ)) → (f : List ℕ) × (o : List (List ℕ)) × (in_front b ls ≡ f ∷ o) × (1 ≤ length f)
unfolding in_front
front_of_lem b [] = (b ∷ [], [], refl, omega arith)
front_of_lem b (l ∷ ls) = (b ∷ l, ls, refl, omega arith)

raw_begun : (b : ℕ) (l s : List ℕ) → NoLf (b ∷ l)
    → (f : List ℕ) × (o : List (List ℕ)) × (raw_lines (b ∷ l ++ s) ≡ f ∷ o) × (length (b ∷ l) ≤ length f)
unfolding raw_lines in_front
raw_begun b [] s h = let t = front_of_lem b (raw_lines s) in (t.0, t.1, rw (not_lf b [] h) t.2, t.3)
raw_begun b (c ∷ l) s h =
    let t = raw_begun c l s (no_further b (c ∷ l) h) in
    (b ∷ t.0, t.1, rw (not_lf b (c ∷ l) h) (ap (in_front b) t.2), omega (arith, t.3))

pub line_begun : (b : ℕ) (l s : List ℕ) → NoLf (b ∷ l) → Begun (b ∷ l) s
unfolding lines_of each_line
line_begun b l s h =
    let t = raw_begun b l s h in
    record { first = t.0; others = each_line t.1; lines = ap each_line t.2; long = t.3 }

-- a CR at the end of a line is dropped, another byte is not
cr_pushed : (t : Bool) (x : ℕ) (a b : List ℕ) → x ∷ cond t a b ≡ cond t (x ∷ a) (x ∷ b)
cr_pushed true x a b = refl
cr_pushed false x a b = refl

pub cr_last : (l : List ℕ) (b : ℕ) → drop_cr (l ++ b ∷ []) ≡ cond (eqb b 13) l (l ++ b ∷ [])
unfolding drop_cr
cr_last [] b = refl
cr_last (x ∷ []) b = cr_pushed (eqb b 13) x [] (b ∷ [])
cr_last (x ∷ y ∷ l) b = ap (λ (z : List ℕ). x ∷ z) (cr_last (y ∷ l) b) ∙ cr_pushed (eqb b 13) x (y ∷ l) (y ∷ l ++ b ∷ [])

pub cr_length : (l : List ℕ) → length l ≤ length (drop_cr l) + 1
unfolding drop_cr
cr_length [] = omega arith
cr_length (b ∷ []) = by_cases (λ (l : List ℕ). 1 ≤ length l + 1) (eqb b 13) [] (b ∷ []) (λ e. omega arith) (λ e. omega arith)
cr_length (b ∷ c ∷ l) = omega (arith, cr_length (c ∷ l))

-- ---- a text that comes in portions: the lines that an LF ends do not depend on what follows it

raw_some : (s : List ℕ) → 0 < length (raw_lines (s ++ 10 ∷ []))
unfolding raw_lines
raw_some [] = omega arith
raw_some (b ∷ s) = go (eqb b 10) (raw_lines (s ++ 10 ∷ []))
  where
    go : (f : Bool) (ls : List (List ℕ)) → 0 < length (cond f ([] ∷ ls) (in_front b ls))
    go true ls = omega arith
    go false [] = unfold in_front in omega arith
    go false (l ∷ ls) = unfold in_front in omega arith

raw_cut : (s t : List ℕ) → raw_lines (s ++ 10 ∷ t) ≡ raw_lines (s ++ 10 ∷ []) ++ raw_lines t
unfolding raw_lines in_front
raw_cut [] t = refl
raw_cut (b ∷ s) t = go (eqb b 10) (raw_lines (s ++ 10 ∷ [])) (raw_some s) (raw_cut s t)
  where
    go : (f : Bool) (ls : List (List ℕ)) → 0 < length ls → raw_lines (s ++ 10 ∷ t) ≡ ls ++ raw_lines t
        → cond f ([] ∷ raw_lines (s ++ 10 ∷ t)) (in_front b (raw_lines (s ++ 10 ∷ t))) ≡ cond f ([] ∷ ls) (in_front b ls) ++ raw_lines t
    go true ls h e = ap (λ (x : List (List ℕ)). [] ∷ x) e
    go false [] h e = absurd (omega arith)
    go false (l ∷ ls) h e = ap (in_front b) e

each_append : (a b : List (List ℕ)) → each_line (a ++ b) ≡ each_line a ++ each_line b
unfolding each_line
each_append [] b = refl
each_append (l ∷ a) b = ap (λ (x : List (List ℕ)). drop_cr l ∷ x) (each_append a b)

pub lines_cut : (s t : List ℕ) → lines_of (s ++ 10 ∷ t) ≡ lines_of (s ++ 10 ∷ []) ++ lines_of t
unfolding lines_of
lines_cut s t = rw (raw_cut s t) (each_append (raw_lines (s ++ 10 ∷ [])) (raw_lines t))

-- ---- a listing

cr_dropped : (l : List ℕ) → drop_cr (l ++ 13 ∷ []) ≡ l
unfolding drop_cr
cr_dropped [] = refl
cr_dropped (b ∷ []) = refl
cr_dropped (b ∷ c ∷ l) = ap (λ (x : List ℕ). b ∷ x) (cr_dropped (c ∷ l))

-- each line is so; and each is of bytes, without an LF
abbrev pub Each : (List ℕ → Type 0) → List (List ℕ) → Type 0
Each P [] = Unit {0}
Each P (l ∷ ls) = P l × Each P ls

abbrev pub AllInLine : List (List ℕ) → Type 0
AllInLine ls = Each (λ l. all in_line l ≡ true) ls

whole_line : (l : List ℕ) → all in_line l ≡ true → NoLf (l ++ 13 ∷ [])
unfolding in_line
whole_line l h =
    all_append (λ b. not (eqb b 10)) l (13 ∷ [])
    (all_so in_line (λ b. not (eqb b 10)) (λ b e. both_right (is_byte b) (not (eqb b 10)) e) l h) refl

pub lines_joined : (ls : List (List ℕ)) → AllInLine ls → lines_of (with_line_ends ls) ≡ ls
unfolding lines_of with_line_ends raw_lines each_line
lines_joined [] h = refl
lines_joined (l ∷ ls) h =
    ap lines_of (sym (append_snoc l 13 (10 ∷ with_line_ends ls)))
    ∙ line_ended_lem (l ++ 13 ∷ []) (with_line_ends ls) (whole_line l h.0)
    ∙ rw (cr_dropped l, lines_joined ls h.1)

-- ---- the lines of a text of bytes hold bytes, and no LF

raw_lines_lem : (t : List ℕ) → all is_byte t ≡ true → AllInLine (raw_lines t)
unfolding raw_lines in_front in_line
raw_lines_lem [] h = tt
raw_lines_lem (b ∷ t) h =
    let r : AllInLine (raw_lines t) = raw_lines_lem t (both_right (is_byte b) (all is_byte t) h) in
    by_cases AllInLine (eqb b 10) ([] ∷ raw_lines t) (in_front b (raw_lines t))
    (λ e. (refl, r))
    (λ e. front b (raw_lines t) (both_left (is_byte b) (all is_byte t) h) e r)
  where
    front : (b : ℕ) (ls : List (List ℕ)) → is_byte b ≡ true → eqb b 10 ≡ false → AllInLine ls → AllInLine (in_front b ls)
    front b [] k e p = (both (in_line b) true (both (is_byte b) (not (eqb b 10)) k (rw e)) refl, tt)
    front b (l ∷ ls) k e p = (both (in_line b) (all in_line l) (both (is_byte b) (not (eqb b 10)) k (rw e)) p.0, p.1)

pub all_cr : (p : ℕ → Bool) (l : List ℕ) → all p l ≡ true → all p (drop_cr l) ≡ true
unfolding drop_cr
all_cr p [] h = refl
all_cr p (b ∷ []) h = by_cases (λ (x : List ℕ). all p x ≡ true) (eqb b 13) [] (b ∷ []) (λ e. refl) (λ e. h)
all_cr p (b ∷ c ∷ l) h =
    both (p b) (all p (drop_cr (c ∷ l))) (both_left (p b) (all p (c ∷ l)) h) (all_cr p (c ∷ l) (both_right (p b) (all p (c ∷ l)) h))

each_line_lem : (ls : List (List ℕ)) → AllInLine ls → AllInLine (each_line ls)
unfolding each_line
each_line_lem [] p = tt
each_line_lem (l ∷ ls) p = (all_cr in_line l p.0, each_line_lem ls p.1)

pub text_lines : (t : List ℕ) → all is_byte t ≡ true → AllInLine (lines_of t)
unfolding lines_of
text_lines t h = each_line_lem (raw_lines t) (raw_lines_lem t h)
