use Rattle.spaces.proofs.Spaces.has_bytes.Goals as goal
use Rattle.spaces.proofs.Common.{bytes_of, ◌∙◌, not}
use Rattle.spaces.proofs.Piped.{or-open, pipe-is, pipe-stands}
use Rattle.unixmodel.specs.Turn.{is_empty}

pub pipe_at-pipe-requires : goal.pipe_at-pipe-requires
pipe_at-pipe-requires g c = pipe-stands c.self.inside c.args.q (rw (← c.self.view_is) at c.requires)

pub returns : goal.returns
returns g c =
    let p = c.pipe_at-pipe.result.now in
    rw (← c.self.view_is, pipe-is c.self.inside _ c.pipe_at-pipe.ensures)
    (c.can_read.ensures c.self.inside.memory.ram
    ∙ or-open (not (is_empty (bytes_of c.self.inside.memory.ram p))) p.write_open
    (c.self.invariant.spaces.both c.args.q p c.pipe_at-pipe.ensures).write)
