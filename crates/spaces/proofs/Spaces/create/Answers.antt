use Rattle.spaces.proofs.Spaces.create.Given as given
use Rattle.spaces.proofs.Spaces.create.Goals as goal
use Rattle.spaces.proofs.Spaces.create.Goals.{After-deref_mut}
use Rattle.spaces.proofs.Shown.{anew, Placed, set_in}
use Rattle.spaces.proofs.Traded.{over-free, settled-there}
use Rattle.spaces.proofs.Common.{no_pages, spaces_of, Some, ap}

made : (g : given.Over) (c : After-deref_mut g)
    → Placed g.T.Translate.held c.self.inside
    (set_in c.self.inside c.new.new.memory c.self.inside.translator c.deref_mut.result.now c.args.at
    (Some c.in-Ok.space)) c.args.at (Some no_pages)
made g c = settled-there c.self.invariant.spaces c.args.at c.in-Ok.space c.requires.inside
    (rw (← c.self.view_is) at c.requires.free) c.deref_mut.ensures.value c.in-Ok.ensures.made.space
    c.in-Ok.ensures.made.trades c.in-Ok.ensures.made.size

pub invariant_of-self : goal.invariant_of-self
invariant_of-self g c = record
    { spaces = anew _ ((made g (goal.at.invariant_of-self g c).After-deref_mut).sound); known = c.forget.ensures _ }

pub returns-in-Ok-clause-done : goal.returns-in-Ok-clause-done
returns-in-Ok-clause-done g c =
    let all = made g (goal.at.returns-in-Ok-clause-done g c).After-deref_mut in
    rw (← c.self.view_is) (all.fits, all.view)

pub returns-in-Err-clause-refused : goal.returns-in-Err-clause-refused
returns-in-Err-clause-refused g c =
    let less = over-free c.self.invariant.spaces c.args.at (Some no_pages) c.requires.inside
    (rw (← c.self.view_is) at c.requires.free) (c.in-Err.ensures.full.0 c.in-Err.ensures.only) in
    rw (← c.self.view_is) (less, ap (λ m. spaces_of (record c.self.inside { memory = m })) c.in-Err.ensures.unchanged)
