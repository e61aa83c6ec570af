use Rattle.sv39.specs.Lookaside.{IsWithin}
use Rattle.sv39.proofs.places.Places.clear.Given as goal

abbrev pub invariant-loop-end : goal.invariant-loop-end
invariant-loop-end g l =
    IsWithin g.row.N (record
    { fetches = l.self-inside.fetches; loads = l.self-inside.loads; stores = l.self-inside.stores }) l.end

abbrev pub decreases-loop-end : goal.decreases-loop-end
decreases-loop-end g l = l.end
