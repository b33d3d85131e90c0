-- THE FIRST BYTE THAT TWO DIGITS CANNOT TAKE. With it no ending makes a value between the bounds; what stands before it can be ended.
-- Assumes nothing.
use Rattle.std.specs.Prelude.{Ok, Err}
use Prim.Native.Nat.{ℕ, suc, ◌+◌, ◌-◌, ◌*◌, ◌/◌, ◌≤◌, ◌<◌}
use mathlib.Core.Path.{◌≡◌, refl, sym, ◌∙◌}
use mathlib.Core.Bool.{Bool, true, false, ◌&&◌}
use mathlib.Core.List.{List, [], ◌∷◌}
use native.Mathlib.Omega.{arith}
use lib.Dec.{ltb, leb}
use lib.ListN.{length, drop}
use borrow.Author.Tests.{leb-true, lt-ltb, le-leb, ne_eqb}
use Rattle.reader.specs.Bytes.{digit_of, is_byte, in_line, same}
use Rattle.reader.specs.FirstBad.{CanEnd, FirstBad}
use Rattle.reader.proofs.Tests.{both, both_left, both_right, by_cases}
use Rattle.reader.proofs.Digits.{digit_is}
use Rattle.reader.proofs.FirstBad.{bad_end, bad_here, bad_next, bad_as}
use Rattle.numbers.specs.Number.{NumberRead, value_at, number_place, is_whole, second_of, pair_of, pair_at}

-- a place that is told, counted on from `at`, is that of the first bad byte
pub record Placed (right : List ℕ → Bool) (l : List ℕ) (at told : ℕ) : Type 0 where
  pub place : ℕ
  pub is : told ≡ at + place
  pub law : FirstBad right l place

-- a value that is read, and then what the rest comes to
abbrev pub then_right : NumberRead → Bool → Bool
then_right (Ok n) rest = rest
then_right (Err at) rest = false

-- the place of a fault in the value, or else the one that the rest tells
abbrev pub then_place : NumberRead → ℕ → ℕ
then_place (Ok n) rest = rest
then_place (Err at) rest = at

digit_held : (d : ℕ) → d < 10 → in_line (48 + d) ≡ true
unfolding in_line is_byte
digit_held d h =
    let p : 48 + d ≡ 10 → ⊥ = omega arith in
    simp (lt-ltb (48 + d) 256 (omega arith), ne_eqb (48 + d) 10 p)

module _ (low high : ℕ) where
  -- a first digit that can be taken, and a second one after it
  abbrev opens : ℕ → Bool
  opens a = ltb (digit_of a) 10 && (leb low (digit_of a * 10 + 9) && leb (digit_of a * 10) high)

  abbrev closes : ℕ → ℕ → Bool
  closes a b = ltb (digit_of b) 10 && (leb low (digit_of a * 10 + digit_of b) && leb (digit_of a * 10 + digit_of b) high)

  -- the second digit that makes the least value
  abbrev least : ℕ → ℕ
  least a = low - digit_of a * 10

  module _ (a : ℕ) (o : opens a ≡ true) where
    between : (leb low (digit_of a * 10 + 9) && leb (digit_of a * 10) high) ≡ true
    between = both_right (ltb (digit_of a) 10) _ o

    least_small : least a < 10
    least_small = omega (arith, leb-true low (digit_of a * 10 + 9) (both_left _ (leb (digit_of a * 10) high) between))

    least_closes : low ≤ high → closes a (48 + least a) ≡ true
    least_closes h =
        let v : digit_of (48 + least a) ≡ least a = digit_is (least a) least_small in
        let u : digit_of a * 10 ≤ high = leb-true (digit_of a * 10) high (both_right (leb low (digit_of a * 10 + 9)) _ between) in
        rw v
        (both (ltb (least a) 10) _ (lt-ltb (least a) 10 least_small)
        (both (leb low (digit_of a * 10 + least a)) _ (le-leb low (digit_of a * 10 + least a) (omega arith))
        (le-leb (digit_of a * 10 + least a) high (omega arith))))

  -- the first digit of the least value
  first_opens : low ≤ high → low < 100 → opens (48 + low / 10) ≡ true
  first_opens h k =
      let v : digit_of (48 + low / 10) ≡ low / 10 = digit_is (low / 10) (omega arith) in
      rw v
      (both (ltb (low / 10) 10) _ (lt-ltb (low / 10) 10 (omega arith))
      (both (leb low (low / 10 * 10 + 9)) _ (le-leb low (low / 10 * 10 + 9) (omega arith)) (le-leb (low / 10 * 10) high (omega arith))))

  -- what the digits do, whatever comes after them
  module _ (at a : ℕ) where
    not_opened : opens a ≡ false → (e : List ℕ) → pair_of low high (a ∷ e) at ≡ Err at
    unfolding pair_of
    not_opened o e = rw o

    module _ (o : opens a ≡ true) where
      opened : (e : List ℕ) → pair_of low high (a ∷ e) at ≡ second_of low high (digit_of a) e (at + 1)
      unfolding pair_of
      opened e = rw o

      not_closed : (b : ℕ) → closes a b ≡ false → (e : List ℕ) → pair_of low high (a ∷ b ∷ e) at ≡ Err (at + 1)
      unfolding second_of
      not_closed b k e = opened (b ∷ e) ∙ rw k

      closed : (b : ℕ) → closes a b ≡ true → (e : List ℕ) → pair_of low high (a ∷ b ∷ e) at ≡ value_at (digit_of a * 10 + digit_of b) (at + 1 + 1)
      unfolding second_of
      closed b k e = opened (b ∷ e) ∙ rw k

  -- ---- two digits, and behind them what is `right`

  module _ (right : List ℕ → Bool) (at : ℕ) where
    abbrev pub pair_then : List ℕ → Bool
    pair_then l = then_right (pair_of low high l at) (right (drop 2 l))

    module _ (ordered : low ≤ high) (small : high < 100) (ends : CanEnd right []) where
      can_close : (a : ℕ) → opens a ≡ true → CanEnd (λ l. pair_then (a ∷ l)) []
      can_close a o =
          record {
            ending = (48 + least a) ∷ ends.ending;
            holds = both (in_line (48 + least a)) _ (digit_held (least a) (least_small a o)) ends.holds;
            makes = rw (closed at a o (48 + least a) (least_closes a o ordered) ends.ending) ends.makes;
          }

      can_open : CanEnd pair_then []
      can_open =
          let o = first_opens ordered (omega arith) in
          let c = can_close (48 + low / 10) o in
          record {
            ending = (48 + low / 10) ∷ c.ending;
            holds = both (in_line (48 + low / 10)) _ (digit_held (low / 10) (omega arith)) c.holds;
            makes = c.makes;
          }

      after_first : (a : ℕ) → opens a ≡ true → (l : List ℕ) {q : ℕ} → FirstBad right (drop 1 l) q
          → Placed pair_then (a ∷ l) at (then_place (pair_of low high (a ∷ l) at) (at + suc (suc q)))
      unfolding second_of
      after_first a o [] f = record { place = 1; is = rw (opened at a o []); law = bad_next a [] (bad_end (can_close a o)) }
      after_first a o (b ∷ l) {q} f = go (closes a b) refl
        where
          go : (t : Bool) → closes a b ≡ t → Placed pair_then (a ∷ b ∷ l) at (then_place (pair_of low high (a ∷ b ∷ l) at) (at + suc (suc q)))
          go true k =
              record {
                place = suc (suc q);
                is = rw (closed at a o b k l);
                law = bad_next a (b ∷ l) (bad_next b l (bad_as (λ e. rw (closed at a o b k e)) f));
              }
          go false k =
              record {
                place = 1;
                is = rw (not_closed at a o b k l);
                law = bad_next a (b ∷ l) (bad_here b l (can_close a o) (λ e. rw (not_closed at a o b k e)));
              }

      -- `q` is the place that the rest tells
      pub pair_then_lem : (l : List ℕ) {q : ℕ} → FirstBad right (drop 2 l) q → Placed pair_then l at (then_place (pair_of low high l at) (at + suc (suc q)))
      unfolding pair_of
      pair_then_lem [] f = record { place = 0; is = omega arith; law = bad_end can_open }
      pair_then_lem (a ∷ l) {q} f = go (opens a) refl
        where
          go : (t : Bool) → opens a ≡ t → Placed pair_then (a ∷ l) at (then_place (pair_of low high (a ∷ l) at) (at + suc (suc q)))
          go true o = after_first a o l f
          go false o =
              record {
                place = 0;
                is = rw (not_opened at a o l) (omega arith);
                law = bad_here a l can_open (λ e. rw (not_opened at a o e));
              }

-- ---- two digits and nothing else

-- nothing stands here
abbrev none : List ℕ → Bool
none l = same l []

none_ends : CanEnd none []
unfolding same
none_ends = record { ending = []; holds = refl; makes = refl }

nothing_more : (l : List ℕ) → FirstBad none l 0
unfolding same
nothing_more [] = bad_end none_ends
nothing_more (b ∷ l) = bad_here b l none_ends (λ e. refl)

module _ (low high : ℕ) where
  place_told : (l : List ℕ) → number_place (pair_of low high l 0) ≡ then_place (pair_of low high l 0) 2
  unfolding pair_of second_of number_place
  place_told [] = refl
  place_told (a ∷ []) = by_cases (λ n. number_place n ≡ then_place n 2) (opens low high a) (Err 1) (Err 0) (λ e. refl) (λ e. refl)
  place_told (a ∷ b ∷ l) =
      by_cases (λ n. number_place n ≡ then_place n 2) (opens low high a) _ (Err 0)
      (λ e. by_cases (λ n. number_place n ≡ then_place n 2) (closes low high a b) (value_at _ 2) (Err 1) (λ e₁. refl) (λ e₁. refl))
      (λ e. refl)

  -- a pair that is all that there is
  pair_read : (l : List ℕ) → pair_then low high none 0 l ≡ is_whole l (pair_of low high l 0)
  unfolding pair_of second_of same
  pair_read [] = refl
  pair_read (a ∷ []) = by_cases (λ n. then_right n true ≡ is_whole (a ∷ []) n) (opens low high a) (Err 1) (Err 0) (λ e. refl) (λ e. refl)
  pair_read (a ∷ b ∷ []) =
      by_cases (λ n. then_right n true ≡ is_whole (a ∷ b ∷ []) n) (opens low high a) _ (Err 0)
      (λ e. by_cases (λ n. then_right n true ≡ is_whole (a ∷ b ∷ []) n) (closes low high a b) (value_at _ 2) (Err 1) (λ e₁. refl) (λ e₁. refl)) (λ e. refl)
  pair_read (a ∷ b ∷ c ∷ l) =
      by_cases (λ n. then_right n false ≡ is_whole (a ∷ b ∷ c ∷ l) n) (opens low high a) _ (Err 0)
      (λ e. by_cases (λ n. then_right n false ≡ is_whole (a ∷ b ∷ c ∷ l) n) (closes low high a b) (value_at _ 2) (Err 1) (λ e₁. sym (ne_eqb 2 (suc (suc (suc (length l)))) (λ p. omega arith))) (λ e₁. refl))
      (λ e. refl)

  pub pair_first_bad : low ≤ high → high < 100 → (l : List ℕ) → FirstBad (λ a. is_whole a (pair_at low high a 0)) l (number_place (pair_at low high l 0))
  unfolding pair_at
  pair_first_bad h k l =
      let t = pair_then_lem low high none 0 h k none_ends l (nothing_more (drop 2 l)) in
      let e : number_place (pair_of low high l 0) ≡ t.place = omega (arith, place_told l, t.is) in
      rw e (bad_as pair_read t.law)
