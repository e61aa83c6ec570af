use Rattle.kernel.proofs.Common.{ap, is_some, free-place}
use Rattle.kernel.proofs.Opening.{descriptor-left, pipe-keeps, pipe-made, place-left}
use Rattle.kernel.proofs.Turning.{runner-of}
use Rattle.kernel.proofs.kernel.Kernel.open_pipe.Goals as goal

pub create_pipe-requires-clause-free : goal.create_pipe-requires-clause-free
create_pipe-requires-clause-free g c = let may =
    rw (← c.self.view_is) at c.requires.may in ap is_some (free-place c.self.inside.spaces.pipes c.args.pipe may.room).1

pub open_as-writer-requires : goal.open_as-writer-requires
open_as-writer-requires g c =
    let may = rw (← c.self.view_is) at c.requires.may in
    let at = (runner-of c.self.invariant.sound may.running).run.process in
    let one = rw (c.pipe_end.ensures, c.current-at.ensures, ← c.self.view_is) at c.open_as-reader.ensures.opens in
    rw (c.current-at.ensures, ← c.self.view_is)
    (record { place = place-left at one may.places; free = descriptor-left at one may.descriptors })

pub invariant_of-self-2 : goal.invariant_of-self-2
invariant_of-self-2 g c =
    let may = rw (← c.self.view_is) at c.requires.may in
    let d = c.if-not-create_pipe.ensures.done in
    rw (c.wakeup.ensures, d.1)
    (pipe-keeps (runner-of c.self.invariant.sound may.running) may.room
    (rw (c.pipe_end.ensures, c.current-at.ensures, ← c.self.view_is) at c.open_as-reader.ensures.opens)
    (rw (c.pipe_end-2.ensures, c.current-at.ensures, ← c.self.view_is) at c.open_as-writer.ensures.opens) d.0
    c.self.invariant)

pub returns-clause-pipes : goal.returns-clause-pipes
returns-clause-pipes g c =
    let may = rw (← c.self.view_is) at c.requires.may in
    let d = c.if-not-create_pipe.ensures.done in
    rw (c.wakeup.ensures, d.1, ← c.self.view_is)
    (pipe-made (runner-of c.self.invariant.sound may.running) may.room
    (rw (c.pipe_end.ensures, c.current-at.ensures, ← c.self.view_is) at c.open_as-reader.ensures.opens)
    (rw (c.pipe_end-2.ensures, c.current-at.ensures, ← c.self.view_is) at c.open_as-writer.ensures.opens) d.0)
