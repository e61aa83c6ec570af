use Rattle.spaces.proofs.Spaces.pages.Goals as goal
use Rattle.spaces.proofs.Places.{held-is, length-pages_of, stands-there}
use Rattle.spaces.proofs.Common.{◌∙◌, ap, arith, sym, pages_in}

pub space_at-space-requires : goal.space_at-space-requires
space_at-space-requires g c = stands-there c.self.inside c.args.at (rw (← c.self.view_is) at c.requires)

pub pages_in-requires : goal.pages_in-requires
pages_in-requires g c =
    let space = c.self.invariant.spaces.machine.each c.args.at c.space_at-space.result.now c.space_at-space.ensures in
    rw c.size.ensures (omega (arith, space.dense.small))

pub returns-clause-count : goal.returns-clause-count
returns-clause-count g c =
    rw (← c.self.view_is, held-is c.self.inside _ c.space_at-space.ensures)
    (c.pages_in.ensures ∙ ap pages_in c.size.ensures
    ∙ sym (length-pages_of c.self.inside.memory.ram c.space_at-space.result.now))

pub returns-clause-few : goal.returns-clause-few
returns-clause-few g c =
    rw (
      ← c.self.view_is,
      held-is c.self.inside _ c.space_at-space.ensures,
      length-pages_of c.self.inside.memory.ram c.space_at-space.result.now,
    )
    ((c.self.invariant.spaces.machine.each c.args.at c.space_at-space.result.now c.space_at-space.ensures).dense.small)
