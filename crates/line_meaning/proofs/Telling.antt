-- What is told of a line: the same under another name, with an argument, with no data. Assumes nothing.
use Prim.Native.Nat.{ℕ}
use mathlib.Core.Path.{◌≡◌, refl, sym, ap, ◌∙◌}
use mathlib.Core.List.{List, []}
use Rattle.words.specs.Words.{argument}
use Rattle.language.specs.declared.TextFault.TheVariants.{NoSuchName}
use Rattle.language.specs.declared.TextFault.{TextFault}
use Rattle.language.specs.Script.{Meaning, fault}
use Rattle.line_values.specs.declared.Line.{Line}
use Rattle.std.specs.Prelude.{Result, Err}
use Rattle.line_values.specs.Inside.Line.{line_from, data_from}
use Rattle.line_meaning.specs.Inside.Reading.{ReadsLine}

-- the same meaning, under another name
pub tells_as : {m n : Meaning} {line : Result Line TextFault} {d e : List ℕ} → m ≡ n → ReadsLine n line d e → ReadsLine m line d e
tells_as p t = rw (sym p) at t

-- a line without data
pub quiet : {m : Meaning} {line : Result Line TextFault} {d : List ℕ} → line ≡ line_from m → data_from m ≡ [] → ReadsLine m line d d
quiet p q = record { told = p; written = rw q }

-- a line whose argument was read
pub with_argument : (f : List ℕ → Meaning) (rest : List ℕ) {a : List ℕ} {line : Result Line TextFault} {d : List ℕ} → ((l : List ℕ) → data_from (f l) ≡ []) → line ≡ line_from (f a) → a ≡ argument rest
    → ReadsLine (f (argument rest)) line d d
with_argument f rest h p q = quiet (p ∙ ap (λ (l : List ℕ). line_from (f l)) q) (h (argument rest))

pub no_name : (d : List ℕ) → ReadsLine (fault NoSuchName) (Err NoSuchName) d d
unfolding line_from data_from
no_name d = record { told = refl; written = refl }
