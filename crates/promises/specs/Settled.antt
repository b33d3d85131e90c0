-- "Its statement settles the outcome and every lent byte for each input, refused input too; that two outcomes meeting it are equal is proved". Every
-- public function's statement has one of three shapes: a value; a value and one lent buffer; a value and two. The functions of the box are listed by
-- name with their statements' own definitions. Assumes nothing: these are definitions.
use Rattle.std.specs.Prelude.{◌≡◌, Bool, List, ℕ, length}
use Rattle.language.specs.declared.Heads.{Heads}
use Rattle.language.specs.declared.Table.{Table}
use Rattle.language.specs.Answer.{compiled}
use Rattle.accepted.specs.Accepted.{table_right}
use Rattle.lister.specs.Listed.{list_answer, list_into}
use Rattle.process.specs.declared.Reading.{Reading}
use Rattle.process.specs.declared.State.{State}
use Rattle.events.specs.Events.{tick_event, reading_event, level_event}
use Rattle.events.specs.Receiving.{byte_event}
use Rattle.events.specs.Gulps.{ticks_event, bytes_event, records_after}
use Rattle.runner.specs.Starting.{start_event, start_counts}
use Rattle.runner.specs.Draining.{drained, buffer_after, counts_after}

-- two outcomes that meet a statement are equal
abbrev pub Settles : {O : Type 0} → (O → Type 0) → Type 0
Settles {O} says = (a b : O) → says a → says b → a ≡ b

-- the three shapes
abbrev pub Value : {O : Type 0} → O → O → Type 0
Value x o = o ≡ x

-- a value, and what a lent buffer holds at the end
abbrev pub Lent : {O L : Type 0} → O → L → O × L → Type 0
Lent x l o = (o.0 ≡ x) × (o.1 ≡ l)

-- and two of them
abbrev pub LentTwo : {O L M : Type 0} → O → L → M → O × (L × M) → Type 0
LentTwo x l m o = (o.0 ≡ x) × ((o.1.0 ≡ l) × (o.1.1 ≡ m))

-- every shape settles its outcome
pub record Shapes : Type 1 where
  pub value : {O : Type 0} (x : O) → Settles (Value x)
  pub lent : {O L : Type 0} (x : O) (l : L) → Settles (Lent x l)
  pub lent_two : {O L M : Type 0} (x : O) (l : L) (m : M) → Settles (LentTwo x l m)

-- the functions of the box
pub record Settled : Type 0 where
  pub compile : (text : List ℕ) → Settles (Value (compiled text))
  pub is_accepted : (t : Table) → Settles (Value (table_right t))
  pub list : (t : Table) (out : List ℕ) → Settles (Lent (list_answer t out) (list_into t out))
  pub start : (t : Table) (s : State) (counts : List ℕ) → Settles (Lent (start_event (table_right t) t.heads s) (start_counts (table_right t) counts))
  pub tick : (s : State) → Settles (Value (tick_event s))
  pub read_clock : (s : State) (r : Reading) → Settles (Value (reading_event s r))
  pub set_level : (s : State) (n : ℕ) (on : Bool) → Settles (Value (level_event s n on))
  pub receive : (pool : List ℕ) (h : Heads) (s : State) (b : ℕ) → Settles (Value (byte_event pool h s b))
  pub tick_run : (s : State) (n : ℕ) → Settles (Value (ticks_event s n))
  pub receive_run : (pool : List ℕ) (h : Heads) (s : State) (run out : List ℕ) →
      Settles (Lent (bytes_event pool h s run (length out)) (records_after pool h s run out))
  pub drain : (cells pool : List ℕ) (s : State) (counts out : List ℕ) →
      Settles (LentTwo (drained cells pool s counts (length out)) (buffer_after cells pool s counts out) (counts_after cells s counts (length out)))
