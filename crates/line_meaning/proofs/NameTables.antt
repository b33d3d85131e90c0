-- The tables of names: entries that a test leaves out, names that the code has found, and names with nothing after them.
-- Assumes nothing.
use Prim.Native.Nat.{ℕ}
use mathlib.Core.Path.{◌≡◌, refl, sym, ap, ◌∙◌}
use mathlib.Core.Bool.{Bool, true, false, cond}
use mathlib.Core.List.{List, [], ◌∷◌}
use Rattle.reader.specs.Bytes.{is_blank, all, same}
use Rattle.reader.proofs.Same.{same_is, flipped}
use Rattle.reader.proofs.Tests.{true_is_false}
use Rattle.language.specs.declared.TextFault.TheVariants.{NoSuchName, BadRest}
use Rattle.language.specs.Script.{Meaning, fault}
use Rattle.language.specs.Meaning.{Entry, entry, lookup, bare}
use Rattle.line_values.specs.declared.Line.{Line}
use Rattle.std.specs.Prelude.{Ok, Err}
use Rattle.line_values.specs.Inside.Line.{line_from}
use Rattle.line_values.specs.Inside.Bare.{bare_line}
use Rattle.line_meaning.specs.Inside.Names.{only}

-- ---- a name

-- `t` is what the code has been told of a name
pub is_it : (es : List Entry) (w name rest : List ℕ) {t : Bool} → t ≡ same w name → t ≡ true → lookup es w rest ≡ lookup es name rest
is_it es w name rest p e = ap (λ (x : List ℕ). lookup es x rest) (same_is w name (sym p ∙ e))

pub is_not : (name : List ℕ) (reader : List ℕ → Meaning) (es : List Entry) (w rest : List ℕ) {t : Bool} → t ≡ same w name → t ≡ false
    → lookup (entry name reader ∷ es) w rest ≡ lookup es w rest
unfolding lookup
is_not name reader es w rest p e = rw (flipped w name false (sym p ∙ e))

-- the word is no name of a table
abbrev pub Refused : List Entry → List ℕ → Type 0
Refused [] w = Unit {0}
Refused (e ∷ es) w = (same w e.word ≡ false) × Refused es w

pub none_named : (es : List Entry) (w rest : List ℕ) → Refused es w → lookup es w rest ≡ fault NoSuchName
unfolding lookup
none_named [] w rest h = refl
none_named (e ∷ es) w rest h = rw (flipped w e.word false h.0) (none_named es w rest h.1)

-- ---- a test that the word passes leaves the entry that it has

parted_by : (p : List ℕ → Bool) (e : Entry) (es : List Entry) (w rest : List ℕ) (t u : Bool) → same e.word w ≡ t → (t ≡ true → u ≡ true)
    → lookup es w rest ≡ lookup (only p es) w rest
    → cond t (e.reader rest) (lookup es w rest) ≡ lookup (cond u (e ∷ only p es) (only p es)) w rest
unfolding lookup
parted_by p e es w rest true true q f k = rw q
parted_by p e es w rest true false q f k = true_is_false (sym (f refl))
parted_by p e es w rest false true q f k = rw q k
parted_by p e es w rest false false q f k = k

pub parted : (p : List ℕ → Bool) (es : List Entry) (w rest : List ℕ) → p w ≡ true → lookup es w rest ≡ lookup (only p es) w rest
unfolding lookup only
parted p [] w rest h = refl
parted p (e ∷ es) w rest h =
    parted_by p e es w rest (same e.word w) (p e.word) refl (λ q. ap p (same_is e.word w q) ∙ h) (parted p es w rest h)

-- ---- a name with nothing after it

bare_case : (t u : Bool) (m : Meaning)
    → cond t (cond u (line_from m) (Err BadRest)) (Err NoSuchName) ≡ line_from (cond t (cond u m (fault BadRest)) (fault NoSuchName))
unfolding line_from
bare_case true true m = refl
bare_case true false m = refl
bare_case false u m = refl

pub bare_shown : (w name rest : List ℕ) (m : Meaning) {told : Line} → Ok told ≡ line_from m
    → bare_line w name rest told ≡ line_from (lookup (entry name (bare m) ∷ []) w rest)
unfolding bare_line lookup bare
bare_shown w name rest m p = rw (p, flipped w name (same w name) refl) (bare_case (same w name) (all is_blank rest) m)
