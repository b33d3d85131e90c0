-- What the definitions of waiting come to at a received byte, case by case: a proof cites a case. Assumes nothing.
use Prim.Native.Nat.{ℕ, ◌+◌, ◌-◌, ◌≤◌, ◌<◌}
use mathlib.Core.Path.{◌≡◌, refl}
use mathlib.Core.Bool.{true}
use mathlib.Core.List.{List}
use native.Mathlib.Omega.{arith}
use lib.Dec.{leb}
use lib.ListN.{length, take, drop, length-take, length-drop}
use Rattle.reader.proofs.Tests.{both_left, both_right}
use Rattle.language.specs.Limits.{data_limit}
use borrow.Author.Tests.{leb-true, ltb-true, le-leb, lt-leb, eq-eqb, ne_eqb}
use Rattle.process.specs.declared.Progress.{Progress}
use Rattle.process.specs.declared.Wait.{Wait}
use Rattle.process.specs.declared.Wait.TheVariants.{Ready, Over, Ticks, Bytes, Data, ClockValue, Signal}
use Rattle.process.specs.Waiting.{progress_right, awake, awaited, matched_to, matched_wait, byte_wait}

-- the waits that a byte does not move: the code's last arm
pub others_stay : (pool : List ℕ) (b place end : ℕ) (w : Wait) → ((n : ℕ) → w ≡ Bytes n → ⊥) → ((m : Progress) → w ≡ Data m → ⊥) → w ≡ byte_wait pool b place end w
others_stay pool b place end Ready g h = refl
others_stay pool b place end Over g h = refl
others_stay pool b place end (Ticks n) g h = refl
others_stay pool b place end (Bytes n) g h = absurd (g n refl)
others_stay pool b place end (Data m) g h = absurd (h m refl)
others_stay pool b place end (ClockValue c) g h = refl
others_stay pool b place end (Signal l) g h = refl

module _ (place end : ℕ) where
  pub bytes_end : (pool : List ℕ) (b n : ℕ) → n ≤ 1 → byte_wait pool b place end (Bytes n) ≡ awake place end
  bytes_end pool b n h = rw (le-leb n 1 h)

  pub bytes_stay : (pool : List ℕ) (b n : ℕ) → 1 < n → byte_wait pool b place end (Bytes n) ≡ Bytes (n - 1)
  bytes_stay pool b n h = rw (lt-leb n 1 h)

  pub match_ends : (m : Progress) (k : ℕ) → k ≡ m.count → matched_wait place end m k ≡ awake place end
  unfolding matched_wait
  match_ends m k h = rw (eq-eqb k m.count h)

  pub match_stays : (m : Progress) (k : ℕ) → (k ≡ m.count → ⊥) → matched_wait place end m k ≡ Data (matched_to m k)
  unfolding matched_wait
  match_stays m k h = rw (ne_eqb k m.count h)

-- ---- the data of a wait

pub within_pool : (m : Progress) → progress_right m ≡ true → m.from + m.count ≤ data_limit
unfolding progress_right
within_pool m h = leb-true (m.from + m.count) data_limit (both_left (leb (m.from + m.count) data_limit) _ h)

pub within_data : (m : Progress) → progress_right m ≡ true → m.matched < m.count
unfolding progress_right
within_data m h = ltb-true m.matched m.count (both_right (leb (m.from + m.count) data_limit) _ h)

-- the part of the pool that the code takes
pub part_is : (pool : List ℕ) (m : Progress) {from count : ℕ} → from ≡ m.from → count ≡ m.count → take (from + count - from) (drop from pool) ≡ awaited pool m
part_is pool m {from} {count} e f =
    let n : from + count - from ≡ count = omega arith in
    rw (n, e, f)

pub awaited_length : (pool : List ℕ) (m : Progress) → length pool ≡ data_limit → m.from + m.count ≤ data_limit → length (awaited pool m) ≡ m.count
awaited_length pool m n h = simp (length-take, length-drop) (omega arith)
