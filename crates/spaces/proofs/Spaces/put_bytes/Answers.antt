use Rattle.spaces.proofs.Spaces.put_bytes.Given as given
use Rattle.spaces.proofs.Spaces.put_bytes.Goals as goal
use Rattle.spaces.proofs.Spaces.put_bytes.Goals.{After-put_in}
use Rattle.spaces.proofs.Common.{bytes_of, Some, ap, sym}
use Rattle.spaces.proofs.Piped.{Piped, pipe-found, pipe-frame, pipe-is, piped-as, piped-written, set_pipe}
use Rattle.spaces.proofs.Shown.{anew, known-after}

pub put_in-requires : goal.put_in-requires
put_in-requires g c =
    let e = pipe-found c.self.inside c.args.q _ (rw (← c.self.view_is) at c.requires) c.deref_mut.ensures.value
    (sym (rw c.unwrap-pipe.ensures at c.as_mut.ensures.value)) in
    record {
      frame = (pipe-frame c.self.invariant.spaces c.args.q c.unwrap-pipe.result.now e).0;
      «open» = c.self.invariant.spaces.both c.args.q c.unwrap-pipe.result.now e;
    }

wrote : (g : given.Over) (c : After-put_in g)
    → Piped g.T.Translate.held c.self.inside
    (set_pipe c.self.inside c.put_in.new.ram c.self.inside.memory.frames c.deref_mut.result.now c.args.q
    (Some c.put_in.new.pipe)) c.args.q (Some (bytes_of c.put_in.new.ram c.put_in.new.pipe))
wrote g c =
    let e = pipe-found c.self.inside c.args.q _ (rw (← c.self.view_is) at c.requires) c.deref_mut.ensures.value
    (sym (rw c.unwrap-pipe.ensures at c.as_mut.ensures.value)) in
    piped-written c.self.invariant.spaces c.args.q c.unwrap-pipe.result.now c.put_in.new.pipe _ e
    c.deref_mut.ensures.value
    c.put_in.ensures.stays c.put_in.ensures.memory

pub invariant_of-self : goal.invariant_of-self
invariant_of-self g c = record {
  spaces = anew _ (wrote g (goal.at.invariant_of-self g c).After-put_in).sound;
  known = known-after c.forget_frame.new.self c.self.inside.memory.ram c.frame.result.0
      (λ bytes. c.forget_frame.ensures c.self.inside.memory.ram bytes c.self.invariant.known)
      (rw c.frame.ensures.frame c.put_in.ensures.memory);
}

pub returns : goal.returns
returns g c =
    let held = pipe-is c.self.inside _
    (pipe-found c.self.inside c.args.q _ (rw (← c.self.view_is) at c.requires) c.deref_mut.ensures.value
    (sym (rw c.unwrap-pipe.ensures at c.as_mut.ensures.value))) in
    record {
      bytes = rw (← c.self.view_is, held)
          (piped-as _ (wrote g (goal.at.returns g c).After-put_in) (ap Some c.put_in.ensures.bytes)).view;
      count =
          rw (← c.self.view_is, held) c.put_in.ensures.count;
    }
