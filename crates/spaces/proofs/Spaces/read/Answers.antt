use Rattle.spaces.proofs.Spaces.read.Goals as goal
use Rattle.spaces.proofs.Places.{held-is, stands-there}
use Rattle.spaces.proofs.SpacesLemmas.{ok-true, read-can}

pub space_at-space-requires : goal.space_at-space-requires
space_at-space-requires g c = stands-there c.self.inside c.args.at (rw (← c.self.view_is) at c.requires)

pub copy_in-requires : goal.copy_in-requires
copy_in-requires g c = (c.self.invariant.spaces.machine.each c.args.at c.space_at-space.result.now
    c.space_at-space.ensures).dense

pub returns-clause-can : goal.returns-clause-can
returns-clause-can g c = rw (← c.self.view_is, held-is c.self.inside _ c.space_at-space.ensures)
    (read-can c.copy_in.result _ c.copy_in.new.buffer c.is_ok.result c.is_ok.ensures.value c.copy_in.ensures.read
    c.copy_in.ensures.bad c.copy_in.ensures.only)

pub returns-clause-done : goal.returns-clause-done
returns-clause-done g c = rw (← c.self.view_is, held-is c.self.inside _ c.space_at-space.ensures)
    (ok-true c.copy_in.result c.is_ok.result _ _ _ c.is_ok.ensures.value c.copy_in.ensures.read c.copy_in.ensures.read
    (λ one two. one))
