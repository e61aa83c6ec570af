use Rattle.spaces.proofs.Spaces.copy.Given as given
use Rattle.spaces.proofs.Spaces.copy.Goals as goal
use Rattle.spaces.proofs.Spaces.copy.Goals.{After-fence_loaded}
use Rattle.spaces.proofs.Places.{stands-there}
use Rattle.spaces.proofs.Shown.{anew, set_in, Shows}
use Rattle.spaces.proofs.Traded.{over-forked, shared-there}
use Rattle.spaces.proofs.Common.{spaces_of, Some, ap, copied}

pub space_at-space-requires : goal.space_at-space-requires
space_at-space-requires g c = stands-there c.self.inside c.args.from (rw (← c.self.view_is) at c.requires.from)

pub copy-requires : goal.copy-requires
copy-requires g c = c.self.invariant.spaces.machine.each c.args.from c.space_at-space.result.now
    c.space_at-space.ensures

made : (g : given.Over) (c : After-fence_loaded g)
    → Shows g.T.Translate.held c.self.inside
    (set_in c.self.inside c.copy.new.memory c.fence_loaded.new.translator c.deref_mut.result.now c.args.to
    (Some c.in-Ok.space)) (copied (spaces_of c.self.inside) c.args.from c.args.to)
made g c =
    let there = c.in-Ok.ensures.copies in
    shared-there c.self.invariant.spaces c.args.from c.args.to c.space_at-space.result.now c.in-Ok.space
    c.fence_loaded.new.translator c.requires.inside (rw (← c.self.view_is) at c.requires.free)
    c.deref_mut.ensures.value c.space_at-space.ensures
    there.source there.space there.trades c.fence_loaded.ensures.fewer c.fence_loaded.ensures.fenced there.marked
    there.pages there.size

pub invariant_of-self : goal.invariant_of-self
invariant_of-self g c = record
    { spaces = anew _ ((made g (goal.at.invariant_of-self g c).After-fence_loaded).sound); known = c.forget.ensures _ }

pub returns-in-Ok-clause-done : goal.returns-in-Ok-clause-done
returns-in-Ok-clause-done g c =
    let all = made g (goal.at.returns-in-Ok-clause-done g c).After-fence_loaded in
    rw (← c.self.view_is) (all.fits, all.view)

pub returns-in-Err-clause-refused : goal.returns-in-Err-clause-refused
returns-in-Err-clause-refused g c =
    let i = c.self.inside in
    rw (← c.self.view_is) (
      over-forked c.self.invariant.spaces c.args.from c.args.to c.space_at-space.result.now c.space_at-space.ensures
          c.requires.inside (rw (← c.self.view_is) at c.requires.free) (c.in-Err.ensures.full.0 c.in-Err.ensures.only),
      ap (λ m. spaces_of (record i { memory = m })) c.in-Err.ensures.unchanged,
    )
