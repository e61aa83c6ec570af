-- What a reporter keeps of the events that pass.
use Rattle.std.specs.Prelude.{Bool, is_some, min, ℕ, ◌+◌, ◌-◌, ◌^◌, ◌||◌}
use Rattle.reports.specs.declared.reporter.Counts.{Counts}
use Rattle.reports.specs.declared.teller.Wanted.{Wanted}
use Rattle.unixmodel.specs.declared.event.Event.{Event}
use Rattle.unixmodel.specs.declared.event.Event.TheVariants.{Key, Step, Tick}

-- it watches calls, faults and turns
abbrev pub sees_calls : Wanted → Bool
sees_calls wanted = wanted.report || wanted.json || is_some wanted.registers || wanted.faults

-- a count after one event more
abbrev pub more : ℕ → ℕ
more count = min (count + 1) (2 ^ 64 - 1)

abbrev pub counted : Event → Counts → Counts
counted Step counts = record counts { steps = more counts.steps }
counted Tick counts = record counts { ticks = more counts.ticks }
counted (Key key) counts = record counts { keys = more counts.keys }
