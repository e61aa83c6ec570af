use Rattle.spaces.proofs.Spaces.free_pipe.Goals as goal
use Rattle.spaces.proofs.Places.{free-shown}
use Rattle.std.proofs.Common.{refl}

pub returns-clause-place : goal.returns-clause-place
returns-clause-place g c =
    let i = c.self.inside in
    rw (← c.self.view_is, free-shown i.memory.ram i.pipes.items, c.lowest_free.ensures.place, c.as_slice.ensures.value)
    refl
