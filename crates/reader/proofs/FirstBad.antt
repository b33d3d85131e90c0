-- How the first bad byte is found: along the bytes, one at a time; and where several readings are right, by the one that goes furthest.
-- Assumes nothing.
use Prim.Native.Nat.{ℕ, zero, suc, ◌≤◌, ◌<◌}
use mathlib.Core.Path.{◌≡◌, refl, sym, ap, ◌∙◌}
use mathlib.Core.Bool.{Bool, true, false, ◌||◌}
use mathlib.Core.List.{List, [], ◌∷◌, ◌++◌, append_assoc}
use native.Mathlib.Omega.{arith}
use lib.Dec.{ltb}
use lib.ListN.{length, take, length-append}
use lib.Seq.{length-take-le, take-append-le, take-take}
use borrow.Author.Tests.{ltb-true, ltb-false}
use Rattle.reader.specs.Bytes.{all, in_line}
use Rattle.reader.specs.FirstBad.{CanEnd, FirstBad}
use Rattle.reader.proofs.Tests.{both_right, true_is_false, all_append, all_take}

-- ---- along the bytes

module _ {right : List ℕ → Bool} where
  -- nothing is left
  pub bad_end : CanEnd right [] → FirstBad right [] 0
  bad_end c = record { inside = omega arith; before = c; never = λ h e. absurd (omega arith) }

  -- the byte here cannot be taken
  pub bad_here : (b : ℕ) (l : List ℕ) → CanEnd right [] → ((e : List ℕ) → right (b ∷ e) ≡ false) → FirstBad right (b ∷ l) 0
  bad_here b l c dead = record { inside = omega arith; before = c; never = λ h e. dead e }

  -- the byte here can be taken
  pub bad_next : (b : ℕ) (l : List ℕ) {p : ℕ} → FirstBad (λ a. right (b ∷ a)) l p → FirstBad right (b ∷ l) (suc p)
  bad_next b l f =
      record {
        inside = omega (arith, f.inside);
        before = record { ending = f.before.ending; holds = f.before.holds; makes = f.before.makes };
        never = λ h e. f.never (omega arith) e;
      }

  -- and back
  pub bad_rest : (b : ℕ) (l : List ℕ) {p : ℕ} → FirstBad right (b ∷ l) (suc p) → FirstBad (λ a. right (b ∷ a)) l p
  bad_rest b l f =
      record {
        inside = omega (arith, f.inside);
        before = record { ending = f.before.ending; holds = f.before.holds; makes = f.before.makes };
        never = λ h e. f.never (omega arith) e;
      }

-- ---- the same bytes, another test

module _ {right right' : List ℕ → Bool} where
  pub end_as : {l : List ℕ} → ((a : List ℕ) → right a ≡ true → right' a ≡ true) → CanEnd right l → CanEnd right' l
  end_as {l} h c = record { ending = c.ending; holds = c.holds; makes = h (l ++ c.ending) c.makes }

  pub bad_as : ((a : List ℕ) → right a ≡ right' a) → {l : List ℕ} {p : ℕ} → FirstBad right l p → FirstBad right' l p
  bad_as h {l} {p} f =
      record {
        inside = f.inside;
        before = end_as (λ a e. sym (h a) ∙ e) f.before;
        never = λ k e. sym (h (take (suc p) l ++ e)) ∙ f.never k e;
      }

-- a test that is the same behind the first byte
pub bad_from : {right right' : List ℕ → Bool} (b : ℕ) (l : List ℕ) (p : ℕ) → CanEnd right' [] → ((a : List ℕ) → right (b ∷ a) ≡ right' (b ∷ a))
    → FirstBad right (b ∷ l) p → FirstBad right' (b ∷ l) p
bad_from b l zero c h f = bad_here b l c (λ e. sym (h e) ∙ f.never (omega arith) e)
bad_from b l (suc p) c h f = bad_next b l (bad_as h (bad_rest b l f))

-- ---- before the first bad byte, and further than it

-- more bytes with an ending are fewer bytes with a longer one
record Longer (m n : ℕ) (l e : List ℕ) : Type 0 where
  more : List ℕ
  is : take n l ++ e ≡ take m l ++ more
  holds : all in_line l ≡ true → all in_line e ≡ true → all in_line more ≡ true

longer : (m n : ℕ) (l e : List ℕ) → m ≤ n → Longer m n l e
longer zero n l e h = record { more = take n l ++ e; is = refl; holds = λ p q. all_append in_line (take n l) e (all_take in_line n l p) q }
longer (suc m) zero l e h = absurd (omega arith)
longer (suc m) (suc n) [] e h = record { more = e; is = refl; holds = λ p q. q }
longer (suc m) (suc n) (b ∷ l) e h =
    let r = longer m n l e (omega arith) in
    record { more = r.more; is = ap (λ (x : List ℕ). b ∷ x) r.is; holds = λ p q. r.holds (both_right (in_line b) (all in_line l) p) q }

-- what can be ended rightly could be so at each byte before
pub end_before : {right : List ℕ → Bool} (m n : ℕ) (l : List ℕ) → m ≤ n → all in_line l ≡ true → CanEnd right (take n l) → CanEnd right (take m l)
end_before {right} m n l h p c =
    let r = longer m n l c.ending h in
    record { ending = r.more; holds = r.holds p c.holds; makes = ap right (sym r.is) ∙ c.makes }

module _ {right : List ℕ → Bool} {l : List ℕ} {m : ℕ} (f : FirstBad right l m) where
  dead_further : (n : ℕ) → m < n → n ≤ length l → (e : List ℕ) → right (take n l ++ e) ≡ false
  dead_further n h k e = let r = longer (suc m) n l e (omega arith) in ap right r.is ∙ f.never (omega arith) r.more

  not_further : {n : ℕ} → FirstBad right l n → n ≤ m
  not_further {n} g = go (ltb m n) refl
    where
      go : (t : Bool) → ltb m n ≡ t → n ≤ m
      go true e = true_is_false (sym g.before.makes ∙ dead_further n (ltb-true m n e) g.inside g.before.ending)
      go false e = ltb-false m n e

-- there is one first bad byte
pub one_first_bad : {right : List ℕ → Bool} {l : List ℕ} {m n : ℕ} → FirstBad right l m → FirstBad right l n → m ≡ n
one_first_bad f g = omega (arith, not_further f g, not_further g f)

-- with the bad byte the place stays, whatever comes after it
pub bad_stays : {right : List ℕ → Bool} {l : List ℕ} {m : ℕ} → FirstBad right l m → m < length l → (e : List ℕ) → FirstBad right (take (suc m) l ++ e) m
bad_stays {right} {l} {m} f h e =
    let long : length (take (suc m) l) ≡ suc m = length-take-le (suc m) l (omega arith) in
    let before : take m (take (suc m) l ++ e) ≡ take m l = take-append-le m (take (suc m) l) e (omega arith) ∙ take-take m (suc m) l (omega arith) in
    let with : take (suc m) (take (suc m) l ++ e) ≡ take (suc m) l = take-append-le (suc m) (take (suc m) l) e (omega arith) ∙ take-take (suc m) (suc m) l (omega arith) in
    record {
      inside = omega (arith, length-append (take (suc m) l) e);
      before = rw before f.before;
      never = λ k e₁. rw with (f.never h e₁);
    }

-- so a reader that tells the first bad byte tells the same place with every ending
pub told_stays : {right : List ℕ → Bool} (place : List ℕ → ℕ) → ((l : List ℕ) → FirstBad right l (place l)) → (l e : List ℕ) → place l < length l
    → place (take (suc (place l)) l ++ e) ≡ place l
told_stays place f l e h = one_first_bad (f (take (suc (place l)) l ++ e)) (bad_stays (f l) h e)

-- where everything is right there is no bad byte
pub none_bad : {right : List ℕ → Bool} → ((a : List ℕ) → right a ≡ true) → (l : List ℕ) → FirstBad right l (length l)
none_bad h [] = bad_end (record { ending = []; holds = refl; makes = h [] })
none_bad h (b ∷ l) = bad_next b l (none_bad (λ a. h (b ∷ a)) l)

-- ---- two ways to be right: the one that goes further tells

neither : {a b : Bool} → a ≡ false → b ≡ false → (a || b) ≡ false
neither p q = rw (p, q)

or_left : (a b : Bool) → a ≡ true → (a || b) ≡ true
or_left a b e = rw e

or_right : (a b : Bool) → b ≡ true → (a || b) ≡ true
or_right true b e = refl
or_right false b e = e

module _ {one other : List ℕ → Bool} {l : List ℕ} {m n : ℕ} (f : FirstBad one l m) (g : FirstBad other l n) where
  pub other_further : m ≤ n → FirstBad (λ a. one a || other a) l n
  other_further h =
      record {
        inside = g.inside;
        before = end_as (λ a e. or_right (one a) (other a) e) g.before;
        never = λ k e. neither (dead_further f (suc n) (omega arith) (omega arith) e) (g.never k e);
      }

  pub one_further : n ≤ m → FirstBad (λ a. one a || other a) l m
  one_further h =
      record {
        inside = f.inside;
        before = end_as (λ a e. or_left (one a) (other a) e) f.before;
        never = λ k e. neither (f.never k e) (dead_further g (suc m) (omega arith) (omega arith) e);
      }

-- what can be ended rightly may be right by itself too: no other byte is bad then
module _ {right also : List ℕ → Bool} (ends : (a : List ℕ) → also a ≡ true → CanEnd right a) {l : List ℕ} {m : ℕ} (f : FirstBad right l m) where
  not_also : m < length l → (e : List ℕ) → (t : Bool) → also (take (suc m) l ++ e) ≡ t → t ≡ false
  not_also h e true q =
      let c = ends (take (suc m) l ++ e) q in
      sym c.makes ∙ ap right (append_assoc (take (suc m) l) e c.ending) ∙ f.never h (e ++ c.ending)
  not_also h e false q = refl

  pub bad_also : FirstBad (λ a. right a || also a) l m
  bad_also =
      record {
        inside = f.inside;
        before = end_as (λ a e. or_left (right a) (also a) e) f.before;
        never = λ h e. neither (f.never h e) (not_also h e (also (take (suc m) l ++ e)) refl);
      }
