-- Events that are noted one stretch after the other.
use Rattle.std.proofs.Common.{length, List, Option, replicate, subst, take, ℕ, ◌+◌, ◌≡◌, ◌≤◌}
use Rattle.std.proofs.lemmas.List.{take_all}
use Rattle.events.proofs.Recording.{records-then}
use Rattle.events.specs.Records.{Kept, Records}
use Rattle.stretches.proofs.Ahead.{ahead-take}
use Rattle.stretches.specs.Stretches.{IsAhead}
use Rattle.unixmodel.specs.declared.event.Event.{Event}

-- the next k events are noted, too
pub noted-on : (events : List Event) (at next k times : ℕ) (e : Event) (a b c : Option Kept)
    → IsAhead events at (e, times) → k ≤ times → next ≡ at + k → Records a b (take at events)
    → Records b c (replicate k e) → Records a c (take next events)
noted-on events at next k times e a b c ahead few is before after =
    rw (is, ahead-take events at k times e ahead few) (records-then a b c (take at events) (replicate k e) before after)

-- all are noted
pub noted-all : (events : List Event) (at : ℕ) (a b : Option Kept) → length events ≤ at → Records a b (take at events)
    → Records a b events
noted-all events at a b all noted = subst (λ es. Records a b es) (take_all at events all) noted
