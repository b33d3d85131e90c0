-- A received byte on the state: what it does to each wait, and how often it is recorded. 25, then 21.
use Rattle.std.specs.Prelude.{ℕ, Bool, cond, ◌&&◌, List, map, leb, Ok}
use Rattle.language.specs.declared.Heads.{Heads}
use Rattle.language.specs.Limits.{omit_places}
use Rattle.process.specs.declared.State.{State}
use Rattle.process.specs.declared.RunRefusal.TheVariants.{Busy, BadTable}
use Rattle.process.specs.Answers.{Received}
use Rattle.process.specs.declared.Copies.{Copies}
use Rattle.process.specs.declared.Event.{Event}
use Rattle.process.specs.Waiting.{byte_taken, range_right}
use Rattle.process.specs.State.{busy, with_processes}
use Rattle.events.specs.Events.{refused}
use Rattle.events.specs.Recording.{times_recorded}
use Rattle.reader.specs.Bytes.{all}

-- what the byte event must use lies within the table: the data of each wait, and the OMIT bytes
unfoldable pub ranges_right : Heads → State → Bool
ranges_right h s = leb h.omits omit_places && all range_right s.processes

-- a received byte's answer
abbrev pub answered_with : State → Received → Event Copies
answered_with s a = record { state = s; answer = a }

-- a received byte: 25, then 21; "It counts for waits in every case"
unfoldable pub byte_event : List ℕ → Heads → State → ℕ → Event Copies
byte_event pool h s b =
    cond (ranges_right h s)
    (cond (busy s)
    (refused s Busy)
    (answered_with (with_processes s (map (byte_taken pool b) s.processes)) (Ok (record { count = times_recorded h s.paused b }))))
    (refused s BadTable)
