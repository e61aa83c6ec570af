use Rattle.std.proofs.Common.{sym, ◌∙◌}
use Rattle.proc.proofs.Waiting.{search-begins, search-finds, search-goes, search-none}
use Rattle.proc.proofs.waits.first_waiting.Goals as goal

pub places-init : goal.places-init
places-init c = search-begins c.requires.from c.requires.within

pub first_from-requires : goal.first_from-requires
first_from-requires c = c.places.invariant.in_places.1

pub places-preserved : goal.places-preserved
places-preserved c = rw c.clear.ensures
    (search-goes c.places.invariant c.in-Some.ensures.finds c.in-Some.ensures.all
    (sym c.waits.ensures ∙ c.if-waits.false))

pub returns-then-waits-clause-finds : goal.returns-then-waits-clause-finds
returns-then-waits-clause-finds c =
    search-finds c.places.invariant c.in-Some.ensures.finds (sym c.waits.ensures ∙ c.if-waits.true)

pub returns-clause-finds : goal.returns-clause-finds
returns-clause-finds c = search-none c.places.invariant c.in_default.ensures.finds
