-- Data put into the lent bytes: what is found of them, and that there is always room. Assumes nothing.
use Prim.Native.Nat.{ℕ, ◌+◌, ◌≤◌}
use mathlib.Core.Path.{◌≡◌, refl, sym, ap, ◌∙◌}
use mathlib.Core.Bool.{Bool, true, false, cond, ◌&&◌}
use mathlib.Core.List.{List, [], ◌∷◌}
use native.Mathlib.Omega.{arith}
use lib.Dec.{eqb}
use lib.ListN.{length, drop, get_or, length-drop}
use lib.Seq.{sets}
use borrow.Author.Tests.{le-leb, eq-eqb, ne_eqb}
use Rattle.hex_data.specs.Hex.{Said, hex_at, hex_into, hex_put, good, bad}
use Rattle.hex_data.specs.Inside.Said.{said_bytes}
use Rattle.writer.specs.Put.{put_into}
use Rattle.hex_data.specs.declared.HexFault.{HexFault}
use Rattle.language.specs.declared.TextFault.{TextFault}
use Rattle.language.specs.declared.TextFault.TheVariants.{BadRest}
use Rattle.language.specs.declared.Cell.TheVariants.{Send, WaitData, Log}
use Rattle.language.specs.Cell.{span}
use Rattle.language.specs.Table.{cell_for}
use Rattle.language.specs.Script.{send, log, says, fault, data_of, Meaning}
use Rattle.language.specs.Meaning.{marked_data, send_says, data_says, omit_says, signs, log_of}
use Rattle.language.proofs.Reading as right
use Rattle.line_values.specs.declared.Line.TheVariants.{Says, Omit}
use Rattle.std.specs.Prelude.{Result, Ok, Err}
use Rattle.line_values.specs.Inside.Line.{line_from, data_from}
use Rattle.line_meaning.specs.Inside.Found.{found}
use Rattle.line_meaning.specs.Inside.Reading.{ReadsLine, ReadsData}

-- ---- there is room

pub text_put : (bs d : List ℕ) {e : List ℕ} → length d ≡ 128 → length bs ≤ 127 → e ≡ put_into bs d 0 → e ≡ sets d 0 bs
unfolding put_into
text_put bs d h k p = p ∙ rw (le-leb (0 + length bs) (length d) (omega arith))

bytes_few : (room : ℕ) (x : Said) → right.When (right.Bytes room) x → length (said_bytes x) ≤ room
unfolding said_bytes
bytes_few room (good bs) h = omega (arith, h.few)
bytes_few room (bad at) h = omega arith

pub hex_few : (l : List ℕ) → length l ≤ 127 → length (said_bytes (hex_at l 0)) ≤ 127
hex_few l h = let k = bytes_few (length l) (hex_at l 0) (right.hex_data_right l) in omega arith

hex_put_lem : (x : Said) (d : List ℕ) → length d ≡ 128 → length (said_bytes x) ≤ 127 → hex_put x d 0 ≡ sets d 0 (said_bytes x)
unfolding hex_put said_bytes
hex_put_lem (good bs) d h k = rw (le-leb (0 + length bs) (length d) (omega arith))
hex_put_lem (bad at) d h k = refl

into_good : (bs d : List ℕ) → length d ≡ 128 → length bs ≤ 127 → hex_into (good bs) d 0 ≡ Ok (length bs)
unfolding hex_into
into_good bs d h k = rw (le-leb (0 + length bs) (length d) (omega arith))

bytes_found : (x : Said) (d : List ℕ) → length d ≡ 128 → length (said_bytes x) ≤ 127 → {n : ℕ} → Ok n ≡ hex_into x d 0 → Ok n ≡ found x
unfolding hex_into said_bytes found
bytes_found (good bs) d h k {n} q =
    let p : ◌≡◌ {A = Result ℕ HexFault} (Ok n) (Ok (length bs)) = q ∙ into_good bs d h k in
    let e : n ≡ length bs = cc in ap Ok e
bytes_found (bad at) d h k q = let z : ◌≡◌ {A = ℕ} 0 1 = cc in absurd (omega arith)

-- there is room, so that a fault is one of the data
fault_found : (x : Said) (d : List ℕ) → length d ≡ 128 → length (said_bytes x) ≤ 127 → {f : HexFault} → Err f ≡ hex_into x d 0 → Err BadRest ≡ found x
unfolding hex_into said_bytes found
fault_found (good bs) d h k {f} q =
    let p : ◌≡◌ {A = Result ℕ HexFault} (Err f) (Ok (length bs)) = q ∙ into_good bs d h k in
    let z : ◌≡◌ {A = ℕ} 0 1 = cc in absurd (omega arith)
fault_found (bad at) d h k q = refl

module _ (x : Said) (d : List ℕ) {e : List ℕ} (h : length d ≡ 128) (k : length (said_bytes x) ≤ 127) (p : e ≡ hex_put x d 0) where
  finds : {told : Result ℕ TextFault} → told ≡ found x → ReadsData x told d e
  finds q = record { is = q; few = k; written = p ∙ hex_put_lem x d h k }

  pub hex_bytes : {n : ℕ} → Ok n ≡ hex_into x d 0 → ReadsData x (Ok n) d e
  hex_bytes q = finds (bytes_found x d h k q)

  pub hex_fault : {f : HexFault} → Err f ≡ hex_into x d 0 → ReadsData x (Err BadRest) d e
  hex_fault q = finds (fault_found x d h k q)

found_small : (x : Said) (n : ℕ) → Ok n ≡ found x → length (said_bytes x) ≤ 127 → n ≤ 127
unfolding found said_bytes
found_small (good bs) n p h = let q : n ≡ length bs = cc in omega arith
found_small (bad at) n p h = let z : ◌≡◌ {A = ℕ} 0 1 = cc in absurd (omega arith)

pub found_few : {x : Said} {n : ℕ} {d e : List ℕ} → ReadsData x (Ok n) d e → n ≤ 127
found_few {x} {n} f = found_small x n f.is f.few

-- ---- data after their mark

abbrev tail : List ℕ → List ℕ
tail s = drop 1 s

-- the same data, under another name
pub finds_as : {x y : Said} {told : Result ℕ TextFault} {d e : List ℕ} → y ≡ x → ReadsData x told d e → ReadsData y told d e
finds_as p f = rw (sym p) at f

-- the same answer, as a `match` tells it
pub found_as : {x : Said} {told r : Result ℕ TextFault} {d e : List ℕ} → told ≡ r → ReadsData x told d e → ReadsData x r d e
found_as p f = rw p at f

pub no_data : (d : List ℕ) (at : ℕ) → ReadsData (bad at) (Err BadRest) d d
unfolding found said_bytes
no_data d at = record { is = refl; few = omega arith; written = refl }

pub some_data : (bs : List ℕ) {n : ℕ} {d e : List ℕ} → length bs ≤ 127 → (n ≡ length bs) × (e ≡ sets d 0 bs) → ReadsData (good bs) (Ok n) d e
unfolding found said_bytes
some_data bs h p = record { is = ap Ok p.0; few = h; written = p.1 }

pub nothing_marked : (s : List ℕ) → length s ≡ 0 → marked_data s ≡ bad 0
unfolding marked_data
nothing_marked [] h = refl
nothing_marked (b ∷ l) h = absurd (omega arith)

something : (s : List ℕ) → (length s ≡ 0 → ⊥)
    → marked_data s ≡ cond (eqb (get_or s 0 0) 47) (good (tail s)) (cond (eqb (get_or s 0 0) 58) (hex_at (tail s) 0) (bad 0))
unfolding marked_data
something [] h = absurd (h refl)
something (b ∷ l) h = refl

module _ (s : List ℕ) (some : length s ≡ 0 → ⊥) where
  pub text_marked : get_or s 0 0 ≡ 47 → marked_data s ≡ good (tail s)
  text_marked e = something s some ∙ rw (eq-eqb (get_or s 0 0) 47 e)

  pub hex_marked : (get_or s 0 0 ≡ 47 → ⊥) → get_or s 0 0 ≡ 58 → marked_data s ≡ hex_at (tail s) 0
  hex_marked n e = something s some ∙ rw (ne_eqb (get_or s 0 0) 47 n, eq-eqb (get_or s 0 0) 58 e)

  pub unmarked : (get_or s 0 0 ≡ 47 → ⊥) → (get_or s 0 0 ≡ 58 → ⊥) → marked_data s ≡ bad 0
  unmarked n m = something s some ∙ rw (ne_eqb (get_or s 0 0) 47 n, ne_eqb (get_or s 0 0) 58 m)

pub tail_few : (s : List ℕ) → length s ≤ 127 → length (tail s) ≤ 127
tail_few s h = simp length-drop (omega arith)

-- ---- what the data say

-- each by the two cases of the data, of which the answer leaves one
sends_by : (x : Said) (n : ℕ) {d e : List ℕ} → Ok n ≡ found x → e ≡ sets d 0 (said_bytes x) → ReadsLine (send_says x) (Ok (Says (Send (span 0 n)))) d e
unfolding found said_bytes send_says line_from cell_for data_from data_of
sends_by (good bs) n p w = let q : n ≡ length bs = cc in record { told = rw q; written = w }
sends_by (bad at) n p w = let z : ◌≡◌ {A = ℕ} 0 1 = cc in absurd (omega arith)

omits_by : (x : Said) (n : ℕ) {d e : List ℕ} → Ok n ≡ found x → e ≡ sets d 0 (said_bytes x) → ReadsLine (omit_says x) (Ok (Omit n)) d e
unfolding found said_bytes omit_says line_from data_from
omits_by (good bs) n p w = let q : n ≡ length bs = cc in record { told = rw q; written = w }
omits_by (bad at) n p w = let z : ◌≡◌ {A = ℕ} 0 1 = cc in absurd (omega arith)

waits_by : (x : Said) (n : ℕ) {d e : List ℕ} → (n ≡ 0 → ⊥) → Ok n ≡ found x → e ≡ sets d 0 (said_bytes x)
    → ReadsLine (data_says x) (Ok (Says (WaitData (span 0 n)))) d e
unfolding found said_bytes data_says line_from cell_for data_from data_of
waits_by (good []) n h p w = let q : n ≡ 0 = cc in absurd (h q)
waits_by (good (b ∷ bs)) n h p w = let q : n ≡ length (b ∷ bs) = cc in record { told = rw q; written = w }
waits_by (bad at) n h p w = let z : ◌≡◌ {A = ℕ} 0 1 = cc in absurd (omega arith)

nothing_by : (x : Said) (n : ℕ) {d e : List ℕ} → n ≡ 0 → Ok n ≡ found x → e ≡ sets d 0 (said_bytes x) → ReadsLine (data_says x) (Err BadRest) d e
unfolding found said_bytes data_says line_from data_from
nothing_by (good []) n h p w = record { told = refl; written = w }
nothing_by (good (b ∷ bs)) n h p w = let q : n ≡ length (b ∷ bs) = cc in absurd (omega arith)
nothing_by (bad at) n h p w = let z : ◌≡◌ {A = ℕ} 0 1 = cc in absurd (omega arith)

refused_by : (x : Said) (f : TextFault) {d e : List ℕ} (m : Said → Meaning) → ((k : ℕ) → m (bad k) ≡ fault BadRest) → Err f ≡ found x → e ≡ sets d 0 (said_bytes x)
    → ReadsLine (m x) (Err f) d e
unfolding found said_bytes line_from data_from
refused_by (good bs) f m g p w = let z : ◌≡◌ {A = ℕ} 0 1 = cc in absurd (omega arith)
refused_by (bad k) f m g p w = let q : f ≡ BadRest = cc in record { told = rw (g k) (ap Err q); written = rw (g k) w }

module _ {x : Said} {n : ℕ} {d e : List ℕ} (f : ReadsData x (Ok n) d e) where
  pub sends : ReadsLine (send_says x) (Ok (Says (Send (span 0 n)))) d e
  sends = sends_by x n f.is f.written

  pub omits : ReadsLine (omit_says x) (Ok (Omit n)) d e
  omits = omits_by x n f.is f.written

  pub waits_for : (n ≡ 0 → ⊥) → ReadsLine (data_says x) (Ok (Says (WaitData (span 0 n)))) d e
  waits_for h = waits_by x n h f.is f.written

  pub waits_for_nothing : n ≡ 0 → ReadsLine (data_says x) (Err BadRest) d e
  waits_for_nothing h = nothing_by x n h f.is f.written

module _ {x : Said} {k : TextFault} {d e : List ℕ} (f : ReadsData x (Err k) d e) where
  pub sends_none : ReadsLine (send_says x) (Err k) d e
  unfolding send_says
  sends_none = refused_by x k send_says (λ at. refl) f.is f.written

  pub omits_none : ReadsLine (omit_says x) (Err k) d e
  unfolding omit_says
  omits_none = refused_by x k omit_says (λ at. refl) f.is f.written

  pub waits_for_none : ReadsLine (data_says x) (Err k) d e
  unfolding data_says
  waits_for_none = refused_by x k data_says (λ at. refl) f.is f.written

pub sends_text : (bs : List ℕ) {n : ℕ} {d e : List ℕ} → (n ≡ length bs) × (e ≡ sets d 0 bs) → ReadsLine (says (send bs)) (Ok (Says (Send (span 0 n)))) d e
unfolding line_from cell_for data_from data_of
sends_text bs p = record { told = ap (λ (k : ℕ). Ok (Says (Send (span 0 k)))) p.0; written = p.1 }

-- ---- LOG

pub logs_nothing : (s d : List ℕ) → length s ≡ 0 → ReadsLine (log_of s) (Ok (Says (Log (span 0 0)))) d d
unfolding log_of line_from cell_for data_from data_of
logs_nothing [] d h = record { told = refl; written = refl }
logs_nothing (b ∷ l) d h = absurd (omega arith)

some_log : (s : List ℕ) → (length s ≡ 0 → ⊥) → log_of s ≡ cond (eqb (get_or s 0 0) 32 && signs (tail s) false) (says (log (tail s))) (fault BadRest)
unfolding log_of
some_log [] h = absurd (h refl)
some_log (b ∷ l) h = refl

module _ (s d : List ℕ) (some : length s ≡ 0 → ⊥) where
  pub no_space : (get_or s 0 0 ≡ 32 → ⊥) → ReadsLine (log_of s) (Err BadRest) d d
  unfolding line_from data_from
  no_space n = let e : log_of s ≡ fault BadRest = some_log s some ∙ rw (ne_eqb (get_or s 0 0) 32 n) in record { told = rw e; written = rw e }

  -- `t` is what the code has been told of the signs
  module _ {t : Bool} (space : get_or s 0 0 ≡ 32) (told : t ≡ signs (tail s) false) where
    pub bad_signs : t ≡ false → ReadsLine (log_of s) (Err BadRest) d d
    unfolding line_from data_from
    bad_signs f =
        let e : log_of s ≡ fault BadRest = some_log s some ∙ rw (eq-eqb (get_or s 0 0) 32 space, sym told ∙ f) in
        record { told = rw e; written = rw e }

    pub logs : {n : ℕ} {e : List ℕ} → t ≡ true → (n ≡ length (tail s)) × (e ≡ sets d 0 (tail s)) → ReadsLine (log_of s) (Ok (Says (Log (span 0 n)))) d e
    unfolding line_from cell_for data_from data_of
    logs f p =
        let e : log_of s ≡ says (log (tail s)) = some_log s some ∙ rw (eq-eqb (get_or s 0 0) 32 space, sym told ∙ f) in
        record { told = rw e (ap (λ (k : ℕ). Ok (Says (Log (span 0 k)))) p.0); written = rw e p.1 }
