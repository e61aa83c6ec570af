-- States that are alike up to the numbers of open files and pipes: their clocks may differ, too.
use Rattle.std.specs.Prelude.{List, false, ◌≡◌}
use Rattle.renumbering.specs.Renumbered.{IsRenumbered, NamesAreThere}
use Rattle.schedules.specs.Alike.{HasClock, NeverAsksTime, asks_time, timeless}
use Rattle.unixmodel.specs.declared.event.Event.{Event}
use Rattle.unixmodel.specs.Calls.{After}
use Rattle.unixmodel.specs.Next.{next}
use Rattle.unixmodel.specs.Run.{run}
use Rattle.unixmodel.specs.State.{State}

-- with their clocks set back, one is the other with other numbers
abbrev pub AlikeUpToNumbers : State → State → Type 0
AlikeUpToNumbers s t = IsRenumbered (timeless s) (timeless t)

-- the same shows of two states, and they are alike up to numbers
pub record AreAlikeUpToNumbers (a b : After) : Type 0 where
  pub bytes : a.bytes ≡ b.bytes
  pub alike : AlikeUpToNumbers a.state b.state
  pub there : NamesAreThere a.state
  pub first : HasClock a.state
  pub second : HasClock b.state

-- after an event
abbrev pub EventKeepsNumbersAlike : Type 0
EventKeepsNumbersAlike = (s t : State) (e : Event) → HasClock s → HasClock t → NamesAreThere s → AlikeUpToNumbers s t
    → asks_time s e ≡ false
    → AreAlikeUpToNumbers (next s e) (next t e)

-- after a run
abbrev pub RunKeepsNumbersAlike : Type 0
RunKeepsNumbersAlike = (s t : State) (events : List Event) → HasClock s → HasClock t → NamesAreThere s
    → AlikeUpToNumbers s t → NeverAsksTime s events
    → AreAlikeUpToNumbers (run s events) (run t events)
