-- Steps with the ticks of a clock.
use Rattle.std.specs.Prelude.{Bool, List, [], if◌then◌else◌, suc, zero, ℕ, ◌++◌, ◌∷◌, ◌≡◌}
use Rattle.events.specs.Clocks.{passed, strikes}
use Rattle.events.specs.declared.clock.Clock.{Clock}
use Rattle.unixmodel.specs.declared.event.Event.{Event}
use Rattle.unixmodel.specs.declared.event.Event.TheVariants.{Step, Tick}

abbrev pub ticks_of : Bool → List Event
ticks_of strikes = if strikes then Tick ∷ [] else []

-- n steps, each followed by a tick where the clock strikes after it
unfoldable pub paced : ℕ → Clock → List Event
paced zero c = []
paced (suc n) c = Step ∷ ticks_of (strikes c) ++ paced n (passed c)

abbrev pub Begins : List Event → List Event → Type 0
Begins events all = (rest : List Event) × (events ++ rest ≡ all)
