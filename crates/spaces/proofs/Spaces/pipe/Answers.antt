use Rattle.std.proofs.Common.{Some, ap, refl, sym}
use Rattle.spaces.proofs.Piped.{pipe-frame}
use Rattle.spaces.proofs.Places.{pipe-slot}
use Rattle.spaces.proofs.Spaces.pipe.Goals as goal

pub bytes-requires : goal.bytes-requires
bytes-requires g c = (pipe-frame c.self.invariant.spaces c.args.q c.in-Some.pipe.now (sym c.in-Some.ensures)).0

pub returns-in-Some : goal.returns-in-Some
returns-in-Some g c =
    let i = c.self.inside in
    rw (← c.self.view_is, pipe-slot i.memory.ram i.pipes.items c.args.q, ← c.in-Some.ensures) (ap Some c.bytes.ensures)

pub returns-in-None : goal.returns-in-None
returns-in-None g c =
    let i = c.self.inside in
    rw (← c.self.view_is, pipe-slot i.memory.ram i.pipes.items c.args.q, ← c.in-None.ensures) refl
