-- The events of a path.
use Rattle.std.specs.Prelude.{Bool, List, [], count_by, false, replicate, true, ℕ, ◌++◌, ◌∷◌}
use Rattle.orders.specs.declared.paths.Interrupt.{Interrupt}
use Rattle.orders.specs.declared.paths.Interrupt.TheVariants as interrupt
use Rattle.orders.specs.declared.paths.Path.{Path}
use Rattle.orders.specs.declared.paths.Piece.{Piece}
use Rattle.unixmodel.specs.declared.event.Event.{Event}
use Rattle.unixmodel.specs.declared.event.Event.TheVariants.{Key, Step, Tick}

abbrev pub event_of : Interrupt → Event
event_of interrupt.Tick = Tick
event_of (interrupt.Key b) = Key b

abbrev pub steps : ℕ → List Event
steps n = replicate n Step

-- some steps, and an interrupt
abbrev pub piece_events : Piece → List Event
piece_events p = steps p.steps ++ event_of p.interrupt ∷ []

abbrev pub pieces_events : List Piece → List Event
pieces_events [] = []
pieces_events (p ∷ ps) = piece_events p ++ pieces_events ps

-- the pieces, and more steps
abbrev pub events_of : Path → List Event
events_of path = pieces_events path.pieces.items ++ steps path.steps

abbrev pub is_key : Interrupt → Bool
is_key interrupt.Tick = false
is_key (interrupt.Key b) = true

-- how many bytes are typed
abbrev pub typed_in : List Piece → ℕ
typed_in pieces = count_by (λ (p : Piece). is_key p.interrupt) pieces
