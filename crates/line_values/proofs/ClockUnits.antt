-- One unit of a clock value, and a unit with each shorter one. Assumes nothing.
use Prim.Native.Nat.{ℕ, ◌+◌, ◌≤◌, ◌<◌}
use mathlib.Core.Path.{◌≡◌, refl, sym, ap, ◌∙◌}
use mathlib.Core.Bool.{true}
use mathlib.Core.List.{List, [], ◌∷◌}
use native.Mathlib.Omega.{arith}
use lib.Dec.{leb}
use lib.ListN.{length, drop, length-drop, drop_of_length-le}
use lib.Seq.{drop-drop}
use borrow.Author.Tests.{leb-true}
use Rattle.reader.specs.Bytes.{same}
use Rattle.numbers.specs.Number.{NumberRead, pair_of, pair_at}
use Rattle.numbers.specs.declared.Number.{Number}
use Rattle.hex_data.specs.Hex.{Said, byte_before, good, bad}
use Rattle.reader.proofs.Tests.{both_right}
use Rattle.language.specs.declared.Clock.{Clock}
use Rattle.language.specs.Clock.{Range, within, value_before, fill}
use Rattle.language.proofs.Reading.{pair_reads}
use Rattle.std.specs.Prelude.{Result, Ok, Err}
use Rattle.line_values.specs.Inside.ClockUnits.{unit_from, unit_at}

-- ---- one unit

pub unit_some : (r : Range) (l : List ℕ) (at : ℕ) → 0 < length l → unit_at r l at ≡ unit_from (pair_of r.low r.high l at)
unfolding unit_at
unit_some r [] at h = absurd (omega arith)
unit_some r (b ∷ l) at h = refl

module _ (r : Range) (s : List ℕ) (at : ℕ) where
  pub left_out : length s ≤ at → Ok 0 ≡ unit_at r (drop at s) at
  unfolding unit_at
  left_out h = rw (drop_of_length-le s h)

  pub unit_is : at < length s → unit_from (pair_at r.low r.high s at) ≡ unit_at r (drop at s) at
  unfolding pair_at
  unit_is h = sym (unit_some r (drop at s) at (simp length-drop (omega arith)))

pub unit_small : (r : Range) (s : List ℕ) (at : ℕ) {n : Number} → Ok n ≡ pair_at r.low r.high s at → n.value ≤ r.high
unfolding within pair_at
unit_small r s at {n} e =
    let h : within r n.value ≡ true = rw (sym e) at (pair_reads r (drop at s) at) in
    leb-true n.value r.high (both_right (leb r.low n.value) (leb n.value r.high) h)

-- ---- a unit and each shorter one

-- units that are left out have no place
fill_none : (rs : List Range) (at other : ℕ) → fill rs [] at ≡ fill rs [] other
unfolding fill same
fill_none [] at other = refl
fill_none (r ∷ rs) at other = ap (byte_before 0) (fill_none rs at other)

value_read : (n : NumberRead) (v : ℕ) (x : Said) → Ok v ≡ unit_from n → value_before n x ≡ byte_before v x
unfolding unit_from value_before
value_read (Ok n) v x e = let p : n.value ≡ v = cc in ap (λ (u : ℕ). byte_before u x) p
value_read (Err k) v x e = let z : ◌≡◌ {A = ℕ} 0 1 = cc in absurd (omega arith)

unit_read : (r : Range) (rs : List Range) (l : List ℕ) (at v : ℕ) → Ok v ≡ unit_at r l at
    → fill (r ∷ rs) l at ≡ byte_before v (fill rs (drop 2 l) (at + 2))
unfolding unit_at fill
unit_read r rs [] at v e =
    let p : 0 ≡ v = cc in
    ap (byte_before 0) (fill_none rs at (at + 2)) ∙ ap (λ (u : ℕ). byte_before u (fill rs [] (at + 2))) p
unit_read r rs (b ∷ l) at v e = value_read _ v (fill rs (drop 1 l) (at + 2)) e

value_refused : (n : NumberRead) (k : ℕ) (x : Said) → Err k ≡ unit_from n → value_before n x ≡ bad k
unfolding unit_from value_before
value_refused (Ok n) k x e = let z : ◌≡◌ {A = ℕ} 0 1 = cc in absurd (omega arith)
value_refused (Err m) k x e = let p : m ≡ k = cc in ap bad p

unit_refused : (r : Range) (rs : List Range) (l : List ℕ) (at k : ℕ) → Err k ≡ unit_at r l at → fill (r ∷ rs) l at ≡ bad k
unfolding unit_at fill
unit_refused r rs [] at k e = let z : ◌≡◌ {A = ℕ} 0 1 = cc in absurd (omega arith)
unit_refused r rs (b ∷ l) at k e = value_refused _ k (fill rs (drop 1 l) (at + 2)) e

-- a clock value that is made of the values read
unfoldable pub clock_part : (List ℕ → Clock) → Said → Result Clock ℕ
clock_part f (good vs) = Ok (f vs)
clock_part f (bad at) = Err at

part_before : (f : List ℕ → Clock) (v : ℕ) (x : Said) → clock_part f (byte_before v x) ≡ clock_part (λ vs. f (v ∷ vs)) x
unfolding clock_part byte_before
part_before f v (good vs) = refl
part_before f v (bad at) = refl

module _ (r : Range) (rs : List Range) (s : List ℕ) (at : ℕ) (f : List ℕ → Clock) where
  -- the value stands in front of those of the shorter units
  pub goes_on_lem : {v : ℕ} → Ok v ≡ unit_at r (drop at s) at
      → clock_part f (fill (r ∷ rs) (drop at s) at) ≡ clock_part (λ vs. f (v ∷ vs)) (fill rs (drop (at + 2) s) (at + 2))
  goes_on_lem {v} e =
      ap (clock_part f) (unit_read r rs (drop at s) at v e ∙ ap (λ (l : List ℕ). byte_before v (fill rs l (at + 2))) (drop-drop 2 at s))
      ∙ part_before f v (fill rs (drop (at + 2) s) (at + 2))

  pub stops : {k : ℕ} → Err k ≡ unit_at r (drop at s) at → Err k ≡ clock_part f (fill (r ∷ rs) (drop at s) at)
  unfolding clock_part
  stops {k} e = sym (ap (clock_part f) (unit_refused r rs (drop at s) at k e))
