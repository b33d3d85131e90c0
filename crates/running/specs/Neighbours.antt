-- ONE NORTH MUST NOT MOVE THE OTHER. Document 02, No. 10: "Take two accepted scripts with equal f: settings that agree in process k and differ in the
-- others as you like. Feed both the same events, each accepted, each at a quiet moment, drained to quiet after it. Then what process k sends, the records
-- it writes with their counts, and what it switches are equal, in order. Recording of received bytes is no part of this, as any process may pause it."
-- Assumes nothing: these are definitions.
use Rattle.std.specs.Prelude.{◌≡◌, Bool, true, false, cond, not, ◌&&◌, List, [], ◌∷◌, ◌++◌, map, ℕ, suc, ◌*◌, ◌≤◌, ◌<◌, length, get_or, eqb, ltb}
use Rattle.std.proofs.Math.Seq.{slice}
use Rattle.figures.specs.Cap.{over}
use Rattle.language.specs.declared.Table.{Table}
use Rattle.language.specs.Limits.{process_limit, signals, wide}
use Rattle.language.specs.Script.{Script, processes}
use Rattle.language.specs.Table.{settings_of, script_of}
use Rattle.process.specs.State as states
use Rattle.events.specs.Events.{reading_right}
use Rattle.runner.specs.Draining as draining
use Rattle.runner.specs.Calls as runner
use Rattle.runner.specs.Calls.{Call, start, tick, byte, reading, level, ticks, bytes, drain, Reply, event, received, gulp, outcome}
use Rattle.bounded.specs.Replies as bounded
use Rattle.bounded.specs.Replies.{Compiles, did, was_taken, is_event}
use Rattle.bounded.specs.Demand3.{fresh, first_of, end_of}
use Rattle.bounded.specs.Demand3 as demand3
use Rattle.running.specs.Joined.{done}
use Rattle.running.specs.Running.{Process, Box, ready, busy, called}
use Rattle.running.specs.Called.{process}
use Rattle.reader.specs.Bytes.{all}

-- ---- the two runs

-- boxes of one kind, those of a script or those of the runner: what a call leaves and what it is answered, whether a process is ready, the number of the
-- lowest that is; and what is compared of process k besides its replies
pub record Kind (B X : Type 0) : Type 0 where
  pub after : Call → B → B
  pub reply : Call → B → Reply
  pub busy : B → Bool
  pub lowest : B → ℕ
  pub kept : ℕ → B → X

-- a start or an event, and the drains after it, by the bytes of their buffers
pub record Fed : Type 0 where
  pub call : Call
  pub rooms : List ℕ

-- the calls without the drains
abbrev pub calls_of : List Fed → List Call
calls_of fs = map (λ (f : Fed). f.call) fs

-- a call that is no gulp: how many a gulp takes may hang on any process, so the two runs are fed single events
abbrev pub is_single : Call → Bool
is_single start = true
is_single tick = true
is_single (byte x) = true
is_single (reading r) = true
is_single (level n on) = true
is_single (ticks n) = false
is_single (bytes run room) = false
is_single (drain room) = true

-- what is compared, of a start or an event: the replies of process k in the drains after it, and what is kept of process k after them
pub record Part (X : Type 0) : Type 0 where
  pub replies : List Reply
  pub kept : X

-- a drain did a statement
abbrev pub did_one : Reply → Bool
did_one (event a) = false
did_one (received a) = false
did_one (gulp a records) = false
did_one (outcome o written) = did o

module _ {B X : Type 0} (m : Kind B X) where
  -- the box after some drains
  unfoldable pub drained_by : B → List ℕ → B
  drained_by b [] = b
  drained_by b (room ∷ rooms) = drained_by (m.after (drain room) b) rooms

  -- and after a call with the drains after it
  abbrev pub fed_with : Fed → B → B
  fed_with f b = drained_by (m.after f.call b) f.rooms

  -- "each at a quiet moment, drained to quiet after it": after the drains of the start and of each event no process is ready
  unfoldable pub quietly : B → List Fed → Bool
  quietly b [] = true
  quietly b (f ∷ fs) = not (m.busy (fed_with f b)) && quietly (fed_with f b) fs

  -- a run: a start with its drains, and then the events, each with its drains
  pub record Run (b : B) (es : List Call) (fs : List Fed) : Type 0 where
    pub calls : calls_of fs ≡ start ∷ es
    pub single : all is_single es ≡ true
    pub quiet : quietly b fs ≡ true

  -- what process k says in a drain: its reply, if it did a statement while k was the lowest-numbered ready process
  unfoldable pub says_in : ℕ → B → ℕ → List Reply
  says_in k b room = cond (did_one (m.reply (drain room) b) && eqb k (m.lowest b)) (m.reply (drain room) b ∷ []) []

  -- "what process k sends, the records it writes .., and what it switches .., in order": and the replies that are plain
  unfoldable pub says : ℕ → B → List ℕ → List Reply
  says k b [] = []
  says k b (room ∷ rooms) = says_in k b room ++ says k (m.after (drain room) b) rooms

  -- of the start, and of each event. "Recording of received bytes is no part of this": no reply to an event is compared, and no pause; nor are other
  -- processes, or how many drains there were
  unfoldable pub parts : ℕ → B → List Fed → List (Part X)
  parts k b [] = []
  parts k b (f ∷ fs) = record { replies = says k (m.after f.call b) f.rooms; kept = m.kept k (fed_with f b) } ∷ parts k (fed_with f b) fs

-- ---- of scripts

-- the number, from 0, of the first process that is ready; their number where none is
unfoldable pub lowest : List Process → ℕ
lowest [] = 0
lowest (p ∷ ps) = cond (ready p) 0 (suc (lowest ps))

-- the boxes of a script; process k is compared itself, its counts with it
abbrev pub of_script : Script → Kind Box Process
of_script s =
    record {
      after = λ q b. (called s q b).box;
      reply = λ q b. (called s q b).reply;
      busy = busy;
      lowest = λ b. lowest b.processes;
      kept = process;
    }

-- "that agree in process k and differ in the others as you like": it does the same statements; one that a script does not have has none
abbrev pub Agree : ℕ → Script → Script → Type 0
Agree k s r = get_or (done s.body) k [] ≡ get_or (done r.body) k []

-- No. 10 of any two scripts: any calls but gulps may stand among the events, an event may be refused, and a buffer may be too small
abbrev pub ScriptsApart : Type 0
ScriptsApart =
    -- "Take two .. scripts .. that agree in process k"
    (k : ℕ) (s r : Script) → Agree k s r →
    -- "Feed both the same events, .. each at a quiet moment, drained to quiet after it."
    (b c : Box) (es : List Call) (one other : List Fed) → Run (of_script s) b es one → Run (of_script r) c es other →
    -- "Then what process k sends, the records it writes with their counts, and what it switches are equal, in order."
    parts (of_script s) k b one ≡ parts (of_script r) k c other

-- ---- of the runner

-- "with their counts": those of the places of process k, from its first place on
abbrev pub counts_of : Table → ℕ → List ℕ → List ℕ
counts_of t k counts = slice (first_of t.heads k) (end_of t.heads k) counts

-- the boxes of the runner with a table; of process k the counts are compared
abbrev pub of_table : Table → Kind runner.Box (List ℕ)
of_table t =
    record {
      after = λ q b. (bounded.called t q b).box;
      reply = λ q b. (bounded.called t q b).reply;
      busy = λ b. states.busy b.state;
      lowest = λ b. draining.lowest b.state.processes;
      kept = λ k b. counts_of t k b.counts;
    }

-- process k has the same lines, each WAIT DATA line by itself: the counts lie line by line
abbrev pub AgreeInLines : ℕ → Script → Script → Type 0
AgreeInLines k s r = get_or (processes s.body) k [] ≡ get_or (processes r.body) k []

-- No. 10 of the runner with the tables of two accepted texts, whatever the two boxes held before. The f: settings need not be equal, any calls but gulps
-- may stand among the events, an event may be refused, and a buffer may be too small
abbrev pub BoxesApart : Type 0
BoxesApart =
    -- "Take two accepted scripts"
    (text another : List ℕ) (t u : Table) (i j : ℕ) → Compiles text t i → Compiles another u j →
    -- "that agree in process k and differ in the others as you like."
    (k : ℕ) → AgreeInLines k (script_of t) (script_of u) →
    -- "Feed both the same events, .. each at a quiet moment, drained to quiet after it."
    (b c : runner.Box) (es : List Call) (one other : List Fed) → Run (of_table t) b es one → Run (of_table u) c es other →
    -- "Then what process k sends, the records it writes with their counts, and what it switches are equal, in order."
    parts (of_table t) k b one ≡ parts (of_table u) k c other

-- ---- document 02's own sentence

module _ {B X : Type 0} (m : Kind B X) where
  -- "each accepted", and the start too
  unfoldable pub accepted : B → List Fed → Bool
  accepted b [] = true
  accepted b (f ∷ fs) = was_taken (m.reply f.call b) && accepted (fed_with m f b) fs

  -- events, each accepted at a quiet moment and drained to quiet with buffers that are large enough
  pub record AsAsked (b : B) (es : List Call) (fs : List Fed) : Type 0 where
    pub run : Run m b es fs
    pub events : all is_event es ≡ true
    pub taken : accepted b fs ≡ true
    pub buffers : all (λ (f : Fed). all wide f.rooms) fs ≡ true

-- "with equal f: settings that agree in process k"; each has it
pub record Neighbours (t u : Table) (k : ℕ) : Type 0 where
  pub settings : settings_of t.heads ≡ settings_of u.heads
  pub has : k < t.heads.processes
  pub has_too : k < u.heads.processes
  pub agree : AgreeInLines k (script_of t) (script_of u)

-- No. 10 with all that document 02 gives
abbrev pub NorthsApart : Type 0
NorthsApart =
    -- "Take two accepted scripts with equal f: settings that agree in process k and differ in the others as you like."
    (text another : List ℕ) (t u : Table) (i j : ℕ) → Compiles text t i → Compiles another u j → (k : ℕ) → Neighbours t u k →
    -- "Feed both the same events, each accepted, each at a quiet moment, drained to quiet after it."
    (b c : runner.Box) (es : List Call) (one other : List Fed) → AsAsked (of_table t) b es one → AsAsked (of_table u) c es other →
    -- "Then what process k sends, the records it writes with their counts, and what it switches are equal, in order."
    parts (of_table t) k b one ≡ parts (of_table u) k c other

-- ---- there are such runs

-- so many drains are always enough: each does one statement, and demand 3 lets none of 8 processes do more than 4,097
abbrev pub enough : ℕ
enough = process_limit * over

-- they leave no process ready, whatever calls came since the start
abbrev pub Quiets : Type 0
Quiets =
    (text : List ℕ) (t : Table) (k : ℕ) → Compiles text t k → (b : runner.Box) (qs : List Call) → (rooms : List ℕ) → all wide rooms ≡ true → enough ≤ length rooms →
    states.busy (drained_by (of_table t) (demand3.after_calls t (fresh t b) qs).box rooms).state ≡ false

-- an event whose reading or signal is in range: neither 22 nor 23
abbrev pub in_range : Call → Bool
in_range start = false
in_range tick = true
in_range (byte x) = true
in_range (reading r) = reading_right r
in_range (level n on) = ltb n signals
in_range (ticks n) = false
in_range (bytes run room) = false
in_range (drain room) = false

-- so every list of such events can be fed as No. 10 asks, with so many drains after the start and after each
abbrev pub HasRuns : Type 0
HasRuns =
    (text : List ℕ) (t : Table) (k : ℕ) → Compiles text t k → (b : runner.Box) (es : List Call) → all in_range es ≡ true →
    (rooms : List ℕ) → all wide rooms ≡ true → enough ≤ length rooms →
    AsAsked (of_table t) b es (map (λ (q : Call). record { call = q; rooms = rooms }) (start ∷ es))
