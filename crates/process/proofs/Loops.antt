-- Laws for loops over an array: one that looks for an element, and one that maps each. Assumes nothing.
use mathlib.Core.Path.{◌≡◌, refl, sym, ap, ◌∙◌}
use mathlib.Core.Bool.{Bool, true}
use mathlib.Core.List.{List, [], ◌∷◌, ◌++◌, map, append_assoc}
use Prim.Native.Nat.{ℕ, suc, ◌+◌, ◌≤◌, ◌<◌}
use native.Mathlib.Numerals.{add-one}
use native.Mathlib.Omega.{arith}
use Rattle.reader.specs.Bytes.{all}
use Rattle.reader.proofs.Each.{each_at}
use Rattle.std.specs.List.{list_any, list_all}
use Rattle.process.specs.State.{any}
use lib.ListN.{length, get_or, take, drop, set, length-map, drop_of_length-le}
use lib.Seq.{take-suc, drop-cons, take_all, set_at, get_or_at, length-take-le}

-- std's tests and those of specs/
pub any_is : {A : Type 0} (f : A → Bool) (l : List A) → list_any f l ≡ any f l
any_is f [] = refl
any_is f (x ∷ l) = rw (any_is f l)

pub all_is : {A : Type 0} (f : A → Bool) (l : List A) → list_all f l ≡ all f l
all_is f [] = refl
all_is f (x ∷ l) = rw (all_is f l)

-- A loop that maps each element in place: i of them are done.
abbrev pub done : {A : Type 0} → (A → A) → ℕ → List A → List A
done f i l = map f (take i l) ++ drop i l

module _ {A : Type 0} (f : A → A) where
  map_append : (a b : List A) → map f (a ++ b) ≡ map f a ++ map f b
  map_append [] b = refl
  map_append (x ∷ a) b = ap (λ (t : List A). f x ∷ t) (map_append a b)

  pub done_all : (l : List A) (i : ℕ) → length l ≤ i → done f i l ≡ map f l
  done_all l i h = rw (take_all i l h, drop_of_length-le l h) (append_nil' (map f l))
    where
      append_nil' : (x : List A) → x ++ [] ≡ x
      append_nil' [] = refl
      append_nil' (a ∷ x) = ap (λ (t : List A). a ∷ t) (append_nil' x)

  module _ (l : List A) (i : ℕ) (d : A) (h : i < length l) where
    long : length (map f (take i l)) ≡ i
    long = length-map (take i l) f ∙ length-take-le i l (omega arith)

    -- element i is as it was
    pub done_at : get_or (done f i l) i d ≡ get_or l i d
    done_at = rw (drop-cons l i d h) (get_or_at (map f (take i l)) (get_or l i d) (drop (suc i) l) d i long)

    stored : set (done f i l) i (f (get_or (done f i l) i d)) ≡ done f (i + 1) l
    stored =
        rw (
          done_at,
          drop-cons l i d h,
          set_at (map f (take i l)) (get_or l i d) (drop (suc i) l) (f (get_or l i d)) i long,
          add-one,
          take-suc l i d h,
          map_append (take i l) (get_or l i d ∷ []),
        )
        (sym (append_assoc (map f (take i l)) (f (get_or l i d) ∷ []) (drop (suc i) l)))

  -- a turn of the loop: element i of the list so far is read, mapped and stored
  pub done_more : (l : List A) (i : ℕ) (d : A) {next : List A} {y : A} → i < length l → next ≡ done f i l → y ≡ f (get_or next i d) → set next i y ≡ done f (i + 1) l
  done_more l i d {next} {y} h e g = cc (stored l i d h)

-- an element that is to be mapped next passes what each element passed at the start
pub every_done : {A : Type 0} (f : A → A) (p : A → Bool) (l : List A) (i : ℕ) (d : A) {next : List A} → all p l ≡ true → i < length l → next ≡ done f i l
    → p (get_or next i d) ≡ true
every_done f p l i d e h n = ap p (ap (λ x. get_or x i d) n ∙ done_at f l i d h) ∙ each_at p l i d e h
