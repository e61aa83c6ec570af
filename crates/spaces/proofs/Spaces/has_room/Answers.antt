use Rattle.spaces.proofs.Spaces.has_room.Goals as goal
use Rattle.spaces.proofs.Common.{bytes_of, ◌∙◌, length, nat_lt}
use Rattle.spaces.proofs.Piped.{or-open, pipe-is, pipe-stands}

pub pipe_at-pipe-requires : goal.pipe_at-pipe-requires
pipe_at-pipe-requires g c = pipe-stands c.self.inside c.args.q (rw (← c.self.view_is) at c.requires)

pub returns-clause-room : goal.returns-clause-room
returns-clause-room g c =
    let p = c.pipe_at-pipe.result.now in
    rw (← c.self.view_is, pipe-is c.self.inside _ c.pipe_at-pipe.ensures)
    (c.can_write.ensures.can c.self.inside.memory.ram
    ∙ or-open (nat_lt (length (bytes_of c.self.inside.memory.ram p)) 512) p.read_open
    (c.self.invariant.spaces.both c.args.q p c.pipe_at-pipe.ensures).read)

pub returns-clause-few : goal.returns-clause-few
returns-clause-few g c =
    rw (← c.self.view_is, pipe-is c.self.inside _ c.pipe_at-pipe.ensures)
    (c.can_write.ensures.within c.self.inside.memory.ram)
