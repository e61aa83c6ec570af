use Rattle.spaces.proofs.Spaces.shrink.Given as given
use Rattle.spaces.proofs.Spaces.shrink.Goals as goal
use Rattle.spaces.proofs.Spaces.shrink.Goals.{After-fence_loaded}
use Rattle.spaces.proofs.Places.{held-is, there}
use Rattle.spaces.proofs.Shown.{anew, Placed, placed-as, set_in, shown-as}
use Rattle.spaces.proofs.Traded.{changed}
use Rattle.spaces.proofs.SpacesLemmas.{refilled}
use Rattle.spaces.proofs.Common.{view_with, shrunk, ◌≡◌, ◌-◌, Some, arith, refl, take, coherent-nothing, entries_of}
use Rattle.spaces.proofs.Common.{pages_in, pages_of, sym}

pub shrink-requires-clause-space : goal.shrink-requires-clause-space
shrink-requires-clause-space g c =
    c.self.invariant.spaces.machine.each c.args.at c.unwrap-space.result.now
    (there c.args.at c.deref_mut.ensures.value (sym (rw c.unwrap-space.ensures at c.as_mut.ensures.value)))

less : (g : given.Over) (c : After-fence_loaded g)
    → Placed g.T.Translate.held c.self.inside
    (set_in c.self.inside c.shrink.new.memory c.fence_loaded.new.translator c.deref_mut.result.now c.args.at
    (Some c.shrink.new.self)) c.args.at
    (Some (shrunk (view_with (pages_of c.self.inside.memory.ram c.unwrap-space.result.now)
    c.unwrap-space.result.now.size) c.args.bytes))
less g c =
    let x = c.unwrap-space.result.now in
    let z = c.shrink.new.self in
    let size : z.size ≡ x.size - c.args.bytes = let h = c.shrink.ensures.size in omega (arith, h) in
    placed-as c.args.at (changed c.self.invariant.spaces c.args.at x z c.fence_loaded.new.translator
    (there c.args.at c.deref_mut.ensures.value (sym (rw c.unwrap-space.ensures at c.as_mut.ensures.value)))
    (refilled c.args.at c.deref_mut.ensures.value refl)
    c.shrink.ensures.resizes.space c.shrink.ensures.resizes.trades c.shrink.ensures.resizes.root
    c.fence_loaded.ensures.fewer
    (λ a was. coherent-nothing (g.T.Translate.held c.fence_loaded.new.translator) x.root.0
    (entries_of c.shrink.new.memory.ram z) (c.fence_loaded.ensures.fenced a)))
    (shown-as c.shrink.new.memory.ram z (take (pages_in (x.size - c.args.bytes)) (pages_of c.self.inside.memory.ram x))
    (x.size - c.args.bytes) c.shrink.ensures.pages size)

pub invariant_of-self : goal.invariant_of-self
invariant_of-self g c = record
    { spaces = anew _ ((less g (goal.at.invariant_of-self g c).After-fence_loaded).sound); known = c.forget.ensures _ }

pub returns : goal.returns
returns g c = rw (
  ← c.self.view_is,
  held-is c.self.inside _
      (there c.args.at c.deref_mut.ensures.value (sym (rw c.unwrap-space.ensures at c.as_mut.ensures.value))),
)
    (less g (goal.at.returns g c).After-fence_loaded).view
