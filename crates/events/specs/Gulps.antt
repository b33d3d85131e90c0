-- A WHOLE GULP AT ONCE. Document 02, No. 2: "Let one call take a run of bytes, or a number of ticks. It stops after the first that leaves a process ready,
-- or when fewer than two places remain for recorded bytes, or before a later one that alone would be refused, and says how many it took; state and records
-- equal those of single events. If a process is ready at the outset it takes none. Refusals: 21 for that case, after 25."
use Rattle.std.specs.Prelude.{ℕ, zero, suc, ◌-◌, Bool, cond, List, [], ◌∷◌, ◌++◌, length, replicate, ltb, Ok, Err}
use Rattle.std.proofs.Math.Seq as seq
use Rattle.language.specs.declared.Heads.{Heads}
use Rattle.process.specs.declared.State.{State}
use Rattle.process.specs.declared.RunRefusal.TheVariants.{Busy, BadTable}
use Rattle.process.specs.Answers.{Received}
use Rattle.process.specs.declared.Gulp.{Gulp}
use Rattle.process.specs.declared.Event.{Event}
use Rattle.process.specs.State.{busy}
use Rattle.events.specs.Events.{refused, tick_event}
use Rattle.events.specs.Receiving.{ranges_right, byte_event}

-- ---- single events one after the other, on boxes of any kind

-- what comes of them: the box after them, how many were taken, the bytes recorded
pub record Gulping (B : Type 0) : Type 0 where
  pub box : B
  pub taken : ℕ
  pub records : List ℕ

-- it stops here
abbrev pub stop : {B : Type 0} → B → Gulping B
stop b = record { box = b; taken = 0; records = [] }

-- one more is taken, of which these bytes are recorded, and then the rest
abbrev pub more : {B : Type 0} → List ℕ → Gulping B → Gulping B
more bs rest = record { box = rest.box; taken = suc rest.taken; records = bs ++ rest.records }

-- how often a received byte is recorded, by its answer
abbrev pub copies : Received → ℕ
copies (Ok c) = c.count
copies (Err r) = 0

-- "or before a later one that alone would be refused"
abbrev pub unless_refused : {B : Type 0} → B → ℕ → Received → Gulping B → Gulping B
unless_refused b x (Ok c) rest = more (replicate c.count x) rest
unless_refused b x (Err r) rest = stop b

-- `ready` tells whether a process of a box is ready
module _ {B : Type 0} (ready : B → Bool) where
  -- "It stops after the first that leaves a process ready"
  abbrev pub unless_ready : B → Gulping B → Gulping B
  unless_ready b rest = cond (ready b) (stop b) rest

  -- "a number of ticks", each of which leaves the box as `tick` says
  unfoldable pub ticks_from : (B → B) → B → ℕ → Gulping B
  ticks_from tick b zero = stop b
  ticks_from tick b (suc n) = more [] (unless_ready (tick b) (ticks_from tick (tick b) n))

  -- "a run of bytes", each of which alone is answered as `answer` says and leaves the box as `after` says; "or when fewer than two places remain for
  -- recorded bytes"
  unfoldable pub bytes_from : (ℕ → B → Received) → (ℕ → B → B) → B → List ℕ → ℕ → Gulping B
  bytes_from answer after b [] room = stop b
  bytes_from answer after b (x ∷ xs) room =
      cond (ltb room 2) (stop b)
      (unless_refused b x (answer x b) (unless_ready (after x b) (bytes_from answer after (after x b) xs (room - copies (answer x b)))))

-- ---- on the state

-- single ticks
abbrev pub ticks_gulp : State → ℕ → Gulping State
ticks_gulp s n = ticks_from busy (λ z. (tick_event z).state) s n

-- single received bytes, with so many places for what is recorded
abbrev pub bytes_gulp : List ℕ → Heads → State → List ℕ → ℕ → Gulping State
bytes_gulp pool h s run room = bytes_from busy (λ x z. (byte_event pool h z x).answer) (λ x z. (byte_event pool h z x).state) s run room

-- "and says how many it took"
abbrev pub gulp_took : Gulping State → Event Gulp
gulp_took g = record { state = g.box; answer = Ok (record { taken = g.taken; recorded = length g.records }) }

-- "If a process is ready at the outset it takes none": 21
unfoldable pub ticks_event : State → ℕ → Event Gulp
ticks_event s n = cond (busy s) (refused s Busy) (gulp_took (ticks_gulp s n))

-- 25, by the tests of a received byte, then 21; both whatever the run and the room
unfoldable pub bytes_event : List ℕ → Heads → State → List ℕ → ℕ → Event Gulp
bytes_event pool h s run room =
    cond (ranges_right h s) (cond (busy s) (refused s Busy) (gulp_took (bytes_gulp pool h s run room))) (refused s BadTable)

-- the recorded bytes; a refusal records none
unfoldable pub bytes_records : List ℕ → Heads → State → List ℕ → ℕ → List ℕ
bytes_records pool h s run room = cond (ranges_right h s) (cond (busy s) [] (bytes_gulp pool h s run room).records) []

-- the lent places after the call: the recorded bytes at their front
unfoldable pub records_after : List ℕ → Heads → State → List ℕ → List ℕ → List ℕ
records_after pool h s run out = seq.sets out 0 (bytes_records pool h s run (length out))
