use Rattle.sv39.specs.Lookaside.{Keeps, Misses}
use Rattle.sv39.specs.Walk.{numbered}
use Rattle.sv39.proofs.Recalled.{recalled, walked-anew}
use Rattle.sv39.proofs.lookaside.Tlb.frame.Goals as goal

pub returns-in-Some : goal.returns-in-Some
returns-in-Some g c =
    rw (← c.self.view_is) (recalled g.row.N c.args.ram.now c.args.root.0 c.args.va c.args.access
    (record { kept = c.self.inside.places; reads = c.self.inside.reads }) c.in-Some.frame.0 c.in-Some.ensures.found)

pub returns : goal.returns
returns g c =
    let none : Misses (Keeps g.row.N c.args.self.now.kept) c.args.root.0 c.args.va c.args.access =
    rw (← c.self.view_is) c.in_default.ensures.none in
    walked-anew g.row.N c.args.ram.now c.args.root.0 c.args.va c.args.access (numbered c.look_up.result) none
    c.look_up.ensures
