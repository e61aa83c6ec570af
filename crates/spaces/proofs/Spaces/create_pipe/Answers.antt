use Rattle.spaces.proofs.Shown.{with_holders}
use Rattle.spaces.proofs.Spaces.create_pipe.Given as given
use Rattle.spaces.proofs.Spaces.create_pipe.Goals as goal
use Rattle.spaces.proofs.Spaces.create_pipe.Goals.{After-deref_mut}
use Rattle.spaces.proofs.Piped.{Piped, over-free, piped-as, piped-there, set_pipe}
use Rattle.spaces.proofs.Common.{Some, [], spaces_of, ap, refl}

made : (g : given.Over) (c : After-deref_mut g)
    → Piped g.T.Translate.held c.self.inside
    (set_pipe c.self.inside c.self.inside.memory.ram c.take.new.self c.deref_mut.result.now c.args.q
    (Some c.new.result))
    c.args.q (Some [])
made g c =
    let made = c.new.ensures in
    piped-as _ (piped-there c.self.invariant.spaces c.args.q c.new.result c.requires.inside
    (rw (← c.self.view_is) at c.requires.free) c.deref_mut.ensures.value c.in-Some.ensures.valid
    (rw made.frame c.in-Some.ensures.some) c.in-Some.ensures.extra
    (record { read = made.read; write = made.write }))
    (ap Some (made.empty c.self.inside.memory.ram))

pub invariant_of-self : goal.invariant_of-self
invariant_of-self g c = record
    { spaces = (made g (goal.at.invariant_of-self g c).After-deref_mut).sound; known = c.self.invariant.known }

pub returns-in-Some-clause-done : goal.returns-in-Some-clause-done
returns-in-Some-clause-done g c =
    let all = made g (goal.at.returns-in-Some-clause-done g c).After-deref_mut in
    rw (← c.self.view_is) (all.fits, all.view)

pub returns-in-None-clause-refused : goal.returns-in-None-clause-refused
returns-in-None-clause-refused g c =
    let full = c.in-None.ensures in
    rw (← c.self.view_is) (
      over-free c.self.invariant.spaces c.args.q c.requires.inside
          (rw (← c.self.view_is) at c.requires.free) (full.none.0 refl),
      ap (λ n. spaces_of (record c.self.inside { memory = with_holders c.self.inside.memory.ram n })) full.unchanged,
    )
