-- One view of a cell, for the definitions that single out one or two kinds of it.
use Rattle.std.specs.Prelude.{ℕ, Bool, true, false}
use Rattle.language.specs.declared.Span.{Span}
use Rattle.language.specs.declared.Cell.{Cell}
use Rattle.language.specs.declared.Cell.TheVariants.{Nothing, Send, Loop, End, WaitTime, WaitData, WaitByte, WaitClock, WaitSignal, Rts, Log, Fchange, Pause, Resume, Nop, Unknown}

-- what it sends, awaits or logs; the loop that it opens or closes; whether it pauses recording; any other statement; or none
pub data View : Type 0 where
  sends awaits logs : Span → View
  opens : ℕ → View
  closes : View
  pauses : Bool → View
  other none : View

-- of each cell
abbrev pub view : Cell → View
view Nothing = none
view (Send s) = sends s
view (Loop n) = opens n
view End = closes
view (WaitTime n) = other
view (WaitData s) = awaits s
view (WaitByte n) = other
view (WaitClock c) = other
view (WaitSignal l) = other
view (Rts on) = other
view (Log s) = logs s
view Fchange = other
view Pause = pauses true
view Resume = pauses false
view Nop = other
view Unknown = none

-- what is made of one that sends, and of any other
abbrev pub if_sends : {A : Type 0} → View → (Span → A) → A → A
if_sends (sends s) f x = f s
if_sends (awaits s) f x = x
if_sends (logs s) f x = x
if_sends (opens n) f x = x
if_sends closes f x = x
if_sends (pauses on) f x = x
if_sends other f x = x
if_sends none f x = x

-- of one that awaits data
abbrev pub if_awaits : {A : Type 0} → View → (Span → A) → A → A
if_awaits (sends s) f x = x
if_awaits (awaits s) f x = f s
if_awaits (logs s) f x = x
if_awaits (opens n) f x = x
if_awaits closes f x = x
if_awaits (pauses on) f x = x
if_awaits other f x = x
if_awaits none f x = x

-- of one that logs
abbrev pub if_logs : {A : Type 0} → View → (Span → A) → A → A
if_logs (sends s) f x = x
if_logs (awaits s) f x = x
if_logs (logs s) f x = f s
if_logs (opens n) f x = x
if_logs closes f x = x
if_logs (pauses on) f x = x
if_logs other f x = x
if_logs none f x = x

-- of PAUSE and RESUME
abbrev pub if_pauses : {A : Type 0} → View → (Bool → A) → A → A
if_pauses (sends s) f x = x
if_pauses (awaits s) f x = x
if_pauses (logs s) f x = x
if_pauses (opens n) f x = x
if_pauses closes f x = x
if_pauses (pauses on) f x = f on
if_pauses other f x = x
if_pauses none f x = x
