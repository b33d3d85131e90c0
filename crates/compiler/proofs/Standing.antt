-- The heads of a script with another body, and heads of zeros. Assumes nothing.
use Rattle.std.specs.Array.{AllOfLen}
use Prim.Native.Nat.{ℕ, zero, suc, ◌<◌}
use mathlib.Core.Path.{◌≡◌, refl, ap, ap₂}
use mathlib.Core.Bool.{false}
use mathlib.Core.List.{List, [], ◌∷◌}
use native.Mathlib.Omega.{arith}
use lib.ListN.{length, get_or, replicate}
use Rattle.language.specs.declared.Heads.{Heads}
use Rattle.language.specs.Limits.{process_limit, process_places, omit_places, letter_places}
use Rattle.language.specs.Script.{Settings, Item}
use Rattle.language.specs.Table.{padded, pool_of, ends_from, heads_of}

-- heads with other processes and data
abbrev pub heads_with : Heads → ℕ → List ℕ → ℕ → Heads
heads_with h processes ends used = record h { processes = processes; ends = ends; used = used }

pub heads_with_lem : (h : Heads) (s : Settings) (a b : List Item) {processes used : ℕ} {ends : List ℕ} → h ≡ heads_of (record { settings = s; body = a })
    → processes ≡ length (ends_from 0 b) → ends ≡ padded process_limit (ends_from 0 b) → used ≡ length (pool_of b)
    → heads_with h processes ends used ≡ heads_of (record { settings = s; body = b })
unfolding heads_of
heads_with_lem h s a b e p q u = rw (p, q, u) (ap (λ (x : Heads). heads_with x (length (ends_from 0 b)) (padded process_limit (ends_from 0 b)) (length (pool_of b))) e)

-- ---- the heads that a derived default makes

zeros : (xs : List ℕ) (n : ℕ) → length xs ≡ n → ((i : ℕ) → i < n → get_or xs i 0 ≡ 0) → xs ≡ replicate n 0
zeros [] zero l h = refl
zeros [] (suc n) l h = absurd (omega arith)
zeros (x ∷ xs) zero l h = absurd (omega arith)
zeros (x ∷ xs) (suc n) l h =
    let rest : xs ≡ replicate n 0 = zeros xs n (omega arith) (λ i k. h (suc i) (omega arith)) in
    ap₂ (λ (y : ℕ) (ys : List ℕ). y ∷ ys) (h 0 (omega arith)) rest

abbrev pub Zeros : List ℕ → ℕ → Type 0
Zeros xs n = AllOfLen (λ (x : ℕ). x ≡ 0) xs n

all_zero : {xs : List ℕ} {n : ℕ} → Zeros xs n → xs ≡ replicate n 0
all_zero {xs} {n} z = zeros xs n z.long (λ i k. z.at i 0 k)

abbrev pub no_heads : Heads
no_heads =
    record {
      processes = 0;
      ends = replicate process_places 0;
      used = 0;
      encodes = false;
      encode = 0;
      two_stop_bits = false;
      omits = 0;
      omit = replicate omit_places 0;
      extension = replicate letter_places 0;
    }

pub heads_default : (h : Heads) → (h.processes ≡ 0) × (Zeros h.ends process_places × ((h.used ≡ 0) × ((h.encodes ≡ false) × ((h.encode ≡ 0) × ((h.two_stop_bits ≡ false) × ((h.omits ≡ 0) × (Zeros h.omit omit_places × Zeros h.extension letter_places)))))))
    → h ≡ no_heads
heads_default h (processes, (ends, (used, (encodes, (encode, (stopbits, (omits, (omit, extension)))))))) =
    let same : record { processes = h.processes; ends = h.ends; used = h.used; encodes = h.encodes; encode = h.encode; two_stop_bits = h.two_stop_bits; omits = h.omits; omit = h.omit; extension = h.extension } ≡ no_heads =
    rw (processes, all_zero ends, used, encodes, encode, stopbits, omits, all_zero omit, all_zero extension)
    in
    same
