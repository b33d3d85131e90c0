-- "... and says what it sent, recorded or switched": what each statement says, and what it makes of the pause and of its own count.
use Rattle.std.specs.Prelude.{ℕ, Bool}
use Rattle.language.specs.declared.Cell.{Cell}
use Rattle.language.specs.declared.Cell.TheVariants as cell
use Rattle.statement.specs.declared.outcome.Outcome.{Outcome}
use Rattle.statement.specs.declared.outcome.Outcome.TheVariants.{Sent, Recorded, Rts, Fchange, Pause, Resume, Plain}
use Rattle.record.specs.Logging.{next_count}
use Rattle.language.specs.View.{if_logs, if_pauses, view}

-- what it says, n bytes being written
unfoldable pub outcome_of : ℕ → Cell → Outcome
outcome_of n cell.Nothing = Plain
outcome_of n (cell.Send s) = Sent (record { bytes = n })
outcome_of n (cell.Loop k) = Plain
outcome_of n cell.End = Plain
outcome_of n (cell.WaitTime k) = Plain
outcome_of n (cell.WaitData s) = Plain
outcome_of n (cell.WaitByte k) = Plain
outcome_of n (cell.WaitClock c) = Plain
outcome_of n (cell.WaitSignal l) = Plain
outcome_of n (cell.Rts on) = Rts (record { on = on })
outcome_of n (cell.Log s) = Recorded (record { bytes = n })
outcome_of n cell.Fchange = Fchange
outcome_of n cell.Pause = Pause
outcome_of n cell.Resume = Resume
outcome_of n cell.Nop = Plain
outcome_of n cell.Unknown = Plain

-- "PAUSE and RESUME act from the next byte"
unfoldable pub paused_by : Bool → Cell → Bool
paused_by paused c = if_pauses (view c) (λ on. on) paused

-- "Each LOG statement has its own `@c`"
unfoldable pub counted_by : ℕ → Cell → ℕ
counted_by n c = if_logs (view c) (λ s. next_count n) n
