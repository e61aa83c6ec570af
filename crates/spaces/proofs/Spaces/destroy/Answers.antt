use Rattle.spaces.proofs.Spaces.destroy.Given as given
use Rattle.spaces.proofs.Spaces.destroy.Goals as goal
use Rattle.spaces.proofs.Spaces.destroy.Goals.{After-destroy}
use Rattle.spaces.proofs.Places.{there}
use Rattle.spaces.proofs.Shown.{anew, Placed, set_in}
use Rattle.spaces.proofs.Traded.{destroyed, less-loaded}
use Rattle.std.proofs.Common.{None, sym, ◌∙◌}

pub destroy-requires : goal.destroy-requires
destroy-requires g c = c.self.invariant.spaces.machine.each c.args.at c.unwrap-space.result
    (there c.args.at c.deref_mut.ensures.value (sym c.take.ensures.value ∙ c.unwrap-space.ensures))

gone : (g : given.Over) (c : After-destroy g)
    → Placed g.T.Translate.held (record c.self.inside { loaded = c.still_loaded-self-inside.result })
    (set_in (record c.self.inside { loaded = c.still_loaded-self-inside.result }) c.destroy.new.memory
    c.self.inside.translator c.deref_mut.result.now c.args.at c.take.new.self) c.args.at None
gone g c =
    let still = c.still_loaded-self-inside in
    let idle = rw (← c.self.view_is) at c.requires.idle in
    let is = less-loaded c.self.invariant.spaces c.args.at still.result still.ensures.same still.ensures.others idle in
    destroyed is c.args.at c.unwrap-space.result
    (there c.args.at c.deref_mut.ensures.value (sym c.take.ensures.value ∙ c.unwrap-space.ensures))
    still.ensures.gone c.deref_mut.ensures.value c.take.ensures.after c.destroy.ensures.valid c.destroy.ensures.trades

pub invariant_of-self : goal.invariant_of-self
invariant_of-self g c = record
    { spaces = anew _ ((gone g (goal.at.invariant_of-self g c).After-destroy).sound); known = c.forget.ensures _ }

pub returns : goal.returns
returns g c = rw (← c.self.view_is) (gone g (goal.at.returns g c).After-destroy).view
