use Rattle.spaces.proofs.Places.{held-is, stands-there}
use Rattle.spaces.proofs.Shown.{Placed, anew, known-after, with_holders}
use Rattle.spaces.proofs.Traded.{stood-showing}
use Rattle.spaces.proofs.Common.{Some, refl, view_with}
use Rattle.vm.specs.Space.{stored}
use Rattle.spaces.proofs.Spaces.store.Given as given
use Rattle.spaces.proofs.Spaces.store.Goals as goal
use Rattle.spaces.proofs.Spaces.store.Goals.{After-forget_frame}

pub space_at-space-requires : goal.space_at-space-requires
space_at-space-requires g c = stands-there c.self.inside c.args.at (rw (← c.self.view_is) at c.requires)

pub store-requires-clause-mapped : goal.store-requires-clause-mapped
store-requires-clause-mapped g c =
    (c.self.invariant.spaces.machine.each c.args.at c.space_at-space.result.now c.space_at-space.ensures).dense

pub store-requires-clause-once : goal.store-requires-clause-once
store-requires-clause-once g c =
    (c.self.invariant.spaces.machine.each c.args.at c.space_at-space.result.now c.space_at-space.ensures).once

pub invariant_of-self : goal.invariant_of-self
invariant_of-self g c = rw c.in_default.ensures.refused c.self.invariant

pub returns-in_default-clause-refused : goal.returns-in_default-clause-refused
returns-in_default-clause-refused g c = rw (← c.self.view_is, c.in_default.ensures.refused) refl

wrote : (g : given.Over) (c : After-forget_frame g)
    → Placed g.T.Translate.held c.self.inside
    (record c.self.inside { memory = with_holders c.store.new.ram c.self.inside.memory.frames }) c.args.at
    (Some (view_with (stored c.self.inside.memory.ram c.space_at-space.result.now c.args.address c.args.bytes.now)
    c.space_at-space.result.now.size))
wrote g c = stood-showing c.self.invariant.spaces c.args.at c.space_at-space.result.now c.store.new.ram _
    c.space_at-space.ensures c.in-Some.ensures.stands c.in-Some.ensures.written

pub invariant_of-self-2 : goal.invariant_of-self-2
invariant_of-self-2 g c = record {
  spaces = anew _ (wrote g (goal.at.invariant_of-self-2 g c).After-forget_frame).sound;
  known = known-after c.forget_frame.new.self c.self.inside.memory.ram _
      (λ bytes. c.forget_frame.ensures c.self.inside.memory.ram bytes c.self.invariant.known) c.in-Some.ensures.alone;
}

pub returns-clause-done : goal.returns-clause-done
returns-clause-done g c = rw (← c.self.view_is, held-is c.self.inside _ c.space_at-space.ensures)
    (wrote g (goal.at.returns-clause-done g c).After-forget_frame).view
