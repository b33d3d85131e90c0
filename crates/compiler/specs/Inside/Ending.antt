-- What the lines come to, and what the end of the text may count on.
use Rattle.std.specs.Prelude as std
use Rattle.std.specs.Prelude.{◌≡◌, List, ℕ, None, Ok, Err}
use Rattle.stretch.specs.declared.StretchFault.TheVariants.{Broken}
use Rattle.stretch.specs.Inside.Measured.{measured}
use Rattle.language.specs.declared.Compiled.{Compiled}
use Rattle.language.specs.declared.Refusal.{Refusal}
use Rattle.language.specs.declared.Table.{Table}
use Rattle.language.specs.Stretch.{stretch_of}
use Rattle.language.specs.Draft.{Draft, refused, finished}
use Rattle.language.specs.Answer.{CompilerAnswer, answered, compiled}
use Rattle.language.proofs.SoundBody.{Sound}
use Rattle.compiler.specs.declared.drafting.Drafting.{Drafting}
use Rattle.compiler.specs.Inside.Drafting.{script_in, first_of, IsDraft}

-- an answer with its table: the draft's, or all zeros with a refusal
abbrev pub told : CompilerAnswer → Table → Compiled
told (Ok stretch) t = record { answer = Ok stretch; table = t }
told (Err x) t = answered (refused x.fault x.line x.column)

-- where no loop is left open, the loops of every process nest
abbrev pub Nests : Drafting → Type 0
Nests w = ((st : Draft) → IsDraft st w → None ≡ first_of st.loops) → measured w.table.cells w.table.heads ≡ Err Broken → ⊥

-- all lines are taken, and the end of the text decides
pub record Ended (s : List ℕ) (w : Drafting) : Type 0 where
  pub st : Draft
  pub sound : Sound 0 st
  pub stands : IsDraft st w
  pub whole : compiled s ≡ answered (finished stretch_of (script_in st) st.loops)

-- what the lines come to: they are all taken, or a fault ends them
pub record Answered (s : List ℕ) (w : Drafting) (r : std.Result (Unit {0}) Refusal) : Type 0 where
  pub none : r ≡ Ok tt → Ended s w
  pub some : (x : Refusal) → r ≡ Err x → compiled s ≡ answered (refused x.fault x.line x.column)
