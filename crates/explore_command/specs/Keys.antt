-- What is typed in a list of events.
use Rattle.std.specs.Prelude.{List, [], flat_map, ◌∷◌, ℕ}
use Rattle.unixmodel.specs.declared.event.Event.{Event}
use Rattle.unixmodel.specs.declared.event.Event.TheVariants.{Key, Step, Tick}

abbrev pub key_of : Event → List ℕ
key_of Step = []
key_of Tick = []
key_of (Key b) = b ∷ []

abbrev pub keys_in : List Event → List ℕ
keys_in events = flat_map key_of events
