use Rattle.spaces.proofs.Places.{held-is, stands-there}
use Rattle.spaces.proofs.SpacesLemmas.{plain-copied}
use Rattle.spaces.proofs.Spaces.copy_string.Goals as goal

pub space_at-space-requires : goal.space_at-space-requires
space_at-space-requires g c = stands-there c.self.inside c.args.at (rw (← c.self.view_is) at c.requires)

pub copy_string-requires : goal.copy_string-requires
copy_string-requires g c =
    (c.self.invariant.spaces.machine.each c.args.at c.space_at-space.result.now c.space_at-space.ensures).dense

pub returns-clause-string : goal.returns-clause-string
returns-clause-string g c =
    rw (← c.self.view_is, held-is c.self.inside _ c.space_at-space.ensures) c.copy_string.ensures.string

pub returns-clause-bytes : goal.returns-clause-bytes
returns-clause-bytes g c = plain-copied _ _ _ _ _ c.copy_string.ensures.string
