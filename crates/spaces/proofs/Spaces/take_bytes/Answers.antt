use Rattle.spaces.proofs.Spaces.take_bytes.Given as given
use Rattle.spaces.proofs.Spaces.take_bytes.Goals as goal
use Rattle.spaces.proofs.Spaces.take_bytes.Goals.{After-take_out}
use Rattle.spaces.proofs.Piped.{Piped, pipe-found, pipe-frame, pipe-is, piped-as, piped-written, set_pipe}
use Rattle.spaces.proofs.Common.{bytes_of, Some, [], ap, sym, set-get_or}

pub take_out-requires : goal.take_out-requires
take_out-requires g c =
    let e = pipe-found c.self.inside c.args.q _ (rw (← c.self.view_is) at c.requires) c.deref_mut.ensures.value
    (sym (rw c.unwrap-pipe.ensures at c.as_mut.ensures.value)) in
    record {
      frame = (pipe-frame c.self.invariant.spaces c.args.q c.unwrap-pipe.result.now e).0;
      «open» = c.self.invariant.spaces.both c.args.q c.unwrap-pipe.result.now e;
    }

left : (g : given.Over) (c : After-take_out g)
    → Piped g.T.Translate.held c.self.inside
    (set_pipe c.self.inside c.self.inside.memory.ram c.self.inside.memory.frames c.deref_mut.result.now c.args.q
    (Some c.take_out.new.pipe)) c.args.q (Some (bytes_of c.self.inside.memory.ram c.take_out.new.pipe))
left g c =
    let e = pipe-found c.self.inside c.args.q _ (rw (← c.self.view_is) at c.requires) c.deref_mut.ensures.value
    (sym (rw c.unwrap-pipe.ensures at c.as_mut.ensures.value)) in
    piped-written c.self.invariant.spaces c.args.q c.unwrap-pipe.result.now c.take_out.new.pipe _ e
    c.deref_mut.ensures.value
    c.take_out.ensures.stays (sym (set-get_or c.self.inside.memory.ram c.unwrap-pipe.result.now.frame []))

pub invariant_of-self : goal.invariant_of-self
invariant_of-self g c = record
    { spaces = (left g (goal.at.invariant_of-self g c).After-take_out).sound; known = c.self.invariant.known }

pub returns : goal.returns
returns g c =
    let held = pipe-is c.self.inside _
    (pipe-found c.self.inside c.args.q _ (rw (← c.self.view_is) at c.requires) c.deref_mut.ensures.value
    (sym (rw c.unwrap-pipe.ensures at c.as_mut.ensures.value))) in
    record {
      rest = rw (← c.self.view_is, held)
          (piped-as _ (left g (goal.at.returns g c).After-take_out) (ap Some c.take_out.ensures.rest)).view;
      bytes = rw (← c.self.view_is, held) c.take_out.ensures.bytes;
      count = rw (← c.self.view_is, held) c.take_out.ensures.count;
    }
