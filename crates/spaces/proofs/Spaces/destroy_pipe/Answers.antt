use Rattle.spaces.proofs.Spaces.destroy_pipe.Given as given
use Rattle.spaces.proofs.Spaces.destroy_pipe.Goals as goal
use Rattle.spaces.proofs.Spaces.destroy_pipe.Goals.{After-give}
use Rattle.spaces.proofs.Piped.{Piped, pipe-found, pipe-frame, piped-gone, set_pipe}
use Rattle.std.proofs.Common.{None, sym, ◌∙◌}
use Rattle.spaces.proofs.Shown.{anew}

pub give-requires : goal.give-requires
give-requires g c =
    let e = pipe-found c.self.inside c.args.q _ (rw (← c.self.view_is) at c.requires) c.deref_mut.ensures.value
    (sym c.take.ensures.value ∙ c.unwrap-pipe.ensures) in
    let frame = pipe-frame c.self.invariant.spaces c.args.q c.unwrap-pipe.result e in
    record {
      valid = c.self.invariant.spaces.machine.free;
      inside = rw c.frame.ensures.frame frame.0;
      held = rw c.frame.ensures.frame frame.1;
    }

gone : (g : given.Over) (c : After-give g)
    → Piped g.T.Translate.held c.self.inside
    (set_pipe c.self.inside c.give.new.ram c.give.new.self c.deref_mut.result.now c.args.q c.take.new.self) c.args.q
    None
gone g c =
    let e = pipe-found c.self.inside c.args.q _ (rw (← c.self.view_is) at c.requires) c.deref_mut.ensures.value
    (sym c.take.ensures.value ∙ c.unwrap-pipe.ensures) in
    let frame = c.frame.ensures.frame in
    piped-gone c.self.invariant.spaces c.args.q c.unwrap-pipe.result e c.deref_mut.ensures.value c.take.ensures.after
    c.give.ensures.valid (rw frame at c.give.ensures.holders) (rw frame at c.give.ensures.others)
    (λ more. (c.give.ensures.stays (rw frame more)).1)

pub invariant_of-self : goal.invariant_of-self
invariant_of-self g c = record
    { spaces = anew _ ((gone g (goal.at.invariant_of-self g c).After-give).sound); known = c.forget.ensures _ }

pub returns : goal.returns
returns g c = rw (← c.self.view_is) (gone g (goal.at.returns g c).After-give).view
