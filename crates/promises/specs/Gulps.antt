-- No. 2: "Let one call take a run of bytes, or a number of ticks. It stops after the first that leaves a process ready, or when fewer than two places remain
-- for recorded bytes, or before a later one that alone would be refused, and says how many it took; state and records equal those of single events." Of every
-- table and box there can be. Assumes nothing: these are definitions.
use Rattle.std.specs.Prelude.{◌≡◌, true, List, [], ◌∷◌, ◌++◌, map, ◌⊎◌, ℕ, ◌+◌, ◌≤◌, ◌<◌, length, take, drop, replicate, Ok}
use Rattle.reader.specs.Bytes.{all}
use Rattle.language.specs.declared.Heads.{Heads}
use Rattle.language.specs.declared.Table.{Table}
use Rattle.accepted.specs.Accepted.{table_right}
use Rattle.process.specs.declared.State.{State}
use Rattle.process.specs.declared.Gulp.{Gulp}
use Rattle.process.specs.State.{busy}
use Rattle.events.specs.Receiving.{ranges_right, byte_event}
use Rattle.events.specs.Gulps.{copies, records_after}
use Rattle.runner.specs.Calls.{Box, Call, tick, byte, ticks, bytes, Reply, event, received, gulp, outcome, replies}
use Rattle.bounded.specs.Replies.{called, was_taken}

-- the box after some calls
unfoldable pub box_after : Table → Box → List Call → Box
box_after t b [] = b
box_after t b (q ∷ qs) = box_after t (called t q b).box qs

-- how often a byte was recorded, by the reply to it
abbrev pub copies_in : Reply → ℕ
copies_in (event a) = 0
copies_in (received a) = copies a
copies_in (gulp a records) = 0
copies_in (outcome o written) = 0

-- what single calls of some bytes recorded, by their replies
unfoldable pub records_in : List ℕ → List Reply → List ℕ
records_in [] rs = []
records_in (x ∷ xs) [] = []
records_in (x ∷ xs) (r ∷ rs) = replicate (copies_in r) x ++ records_in xs rs

-- the replies to single calls of some bytes
abbrev pub replies_to : Table → Box → List ℕ → List Reply
replies_to t b xs = replies table_right t b (map byte xs)

-- a run of bytes of which so many were taken and these recorded
pub record BytesAreSingle (t : Table) (b : Box) (run : List ℕ) (room : ℕ) (g : Gulp) (bs : List ℕ) : Type 0 where
  pub some : g.taken ≤ length run
  -- "state and records equal those of single events", each accepted
  pub box : (called t (bytes run room) b).box ≡ box_after t b (map byte (take g.taken run))
  pub accepted : all was_taken (replies_to t b (take g.taken run)) ≡ true
  pub records : bs ≡ records_in (take g.taken run) (replies_to t b (take g.taken run))
  pub told : g.recorded ≡ length bs
  -- before each that was taken at least two places remained
  pub places : (j : ℕ) → j < g.taken → length (records_in (take j run) (replies_to t b (take j run))) + 2 ≤ room
  -- it is as long as it may be: it took all, or a process is ready, or fewer than two places remain
  pub longest : (g.taken ≡ length run) ⊎ ((busy (called t (bytes run room) b).box.state ≡ true) ⊎ (room < length bs + 2))

-- a number of ticks likewise; they record nothing and ask no room
pub record TicksAreSingle (t : Table) (b : Box) (n : ℕ) (g : Gulp) (bs : List ℕ) : Type 0 where
  pub some : g.taken ≤ n
  pub box : (called t (ticks n) b).box ≡ box_after t b (replicate g.taken tick)
  pub accepted : all was_taken (replies table_right t b (replicate g.taken tick)) ≡ true
  pub records : bs ≡ []
  pub told : g.recorded ≡ 0
  pub longest : (g.taken ≡ n) ⊎ (busy (called t (ticks n) b).box.state ≡ true)

-- "Success writes only the bytes it reports": the records stand at the front of the lent places, and after them these are as they were
pub record RecordsWrote (t : Table) (b : Box) (run out records : List ℕ) : Type 0 where
  pub front : take (length records) (records_after t.pool t.heads b.state run out) ≡ records
  pub rest : drop (length records) (records_after t.pool t.heads b.state run out) ≡ drop (length records) out

-- of every gulp that is not refused
pub record GulpsAreSingle : Type 0 where
  pub of_bytes : (t : Table) (b : Box) (run : List ℕ) (room : ℕ) (g : Gulp) (records : List ℕ) →
      (called t (bytes run room) b).reply ≡ gulp (Ok g) records → BytesAreSingle t b run room g records
  pub of_ticks : (t : Table) (b : Box) (n : ℕ) (g : Gulp) (records : List ℕ) →
      (called t (ticks n) b).reply ≡ gulp (Ok g) records → TicksAreSingle t b n g records
  -- a later byte alone is never refused by 25: what is right stays right, so that 25 need be tested once only
  pub right : (pool : List ℕ) (h : Heads) (s : State) (x : ℕ) → ranges_right h s ≡ true → ranges_right h (byte_event pool h s x).state ≡ true
  pub wrote : (t : Table) (b : Box) (run out : List ℕ) (a : Gulp) (records : List ℕ) →
      (called t (bytes run (length out)) b).reply ≡ gulp (Ok a) records → RecordsWrote t b run out records
