use Rattle.std.proofs.Common.{◌%◌}
use Rattle.sv39.proofs.Placed.{set-joins, set-only, set-stays}
use Rattle.sv39.proofs.places.Places.keep.Goals as goal

pub returns-clause-joins : goal.returns-clause-joins
returns-clause-joins g c =
    rw c.put.ensures.is (set-joins g.row.N c.args.self.now c.args.access c.args.root.0 c.args.page c.args.frame.0
    c.put.ensures.within c.requires)

pub returns-clause-stays : goal.returns-clause-stays
returns-clause-stays g c =
    rw c.put.ensures.is (set-stays g.row.N c.args.self.now c.args.access (c.args.page % g.row.N)
    c.args.root.0 c.args.page c.args.frame.0)

pub returns-clause-only : goal.returns-clause-only
returns-clause-only g c =
    rw c.put.ensures.is (set-only g.row.N c.args.self.now c.args.access c.args.root.0 c.args.page c.args.frame.0)
