use Rattle.spaces.proofs.Spaces.grow.Given as given
use Rattle.spaces.proofs.Spaces.grow.Goals as goal
use Rattle.spaces.proofs.Spaces.grow.Goals.{After-grow}
use Rattle.spaces.proofs.Common.{free_count, shown, ◌+◌, ◌++◌, ◌-◌, ◌<◌, ◌⊎◌, Some, inl, inr, refl, replicate}
use Rattle.spaces.proofs.Common.{sym, zero_page, frames_for, marks_from, entries_of, pages_in, pages_of, coherent-grown}
use Rattle.spaces.proofs.Places.{held-is, there}
use Rattle.spaces.proofs.SpacesLemmas.{err-false, ok-true, refilled}
use Rattle.spaces.proofs.Shown.{anew, Placed, placed-as, set_in, shown-as}
use Rattle.spaces.proofs.Traded.{changed, grown-front, over-grown, resized, view-same}

pub grow-requires : goal.grow-requires
grow-requires g c = c.self.invariant.spaces.machine.each c.args.at c.unwrap-space.result.now
    (there c.args.at c.deref_mut.ensures.value (sym (rw c.unwrap-space.ensures at c.as_mut.ensures.value)))

more : (g : given.Over) (c : After-grow g)
    → Placed g.T.Translate.held c.self.inside
    (set_in c.self.inside c.grow.new.memory c.self.inside.translator c.deref_mut.result.now c.args.at
    (Some c.grow.new.self)) c.args.at (shown c.grow.new.memory.ram (Some c.grow.new.self))
more g c =
    let i = c.self.inside in
    let x = c.unwrap-space.result.now in
    let there = there c.args.at c.deref_mut.ensures.value
    (sym (rw c.unwrap-space.ensures at c.as_mut.ensures.value)) in
    let front = grown-front c.args.bytes c.args.perm i.memory c.grow.new.memory x c.grow.new.self c.grow.result
    c.grow.ensures.grows
    c.grow.ensures.unchanged in
    let resizes = resized c.args.bytes c.args.perm i.memory c.grow.new.memory x c.grow.new.self c.grow.result
    (c.self.invariant.spaces.machine.each c.args.at x there) c.grow.ensures.grows c.grow.ensures.unchanged in
    changed c.self.invariant.spaces c.args.at x c.grow.new.self i.translator
    there (refilled c.args.at c.deref_mut.ensures.value refl) resizes.space resizes.trades resizes.root (λ t h. h)
    (λ a was. coherent-grown (g.T.Translate.held i.translator) x.root.0 (entries_of i.memory.ram x)
    (entries_of c.grow.new.memory.ram c.grow.new.self) front was)

pub invariant_of-self : goal.invariant_of-self
invariant_of-self g c = record
    { spaces = anew _ ((more g (goal.at.invariant_of-self g c).After-grow).sound); known = c.forget.ensures _ }

pub returns-clause-done : goal.returns-clause-done
returns-clause-done g c =
    let x = c.unwrap-space.result.now in
    let memory = pages_of c.self.inside.memory.ram x
    ++ replicate (pages_in (x.size + c.args.bytes) - pages_in x.size) (zero_page (marks_from c.args.perm)) in
    rw (
      ← c.self.view_is,
      held-is c.self.inside _
          (there c.args.at c.deref_mut.ensures.value (sym (rw c.unwrap-space.ensures at c.as_mut.ensures.value))),
    )
    (ok-true c.grow.result c.is_ok.result _ _ _ c.is_ok.ensures.value c.grow.ensures.grows c.grow.ensures.grows
    (λ grows _.
    let all = placed-as c.args.at (more g (goal.at.returns-clause-done g c).After-grow)
    (shown-as c.grow.new.memory.ram c.grow.new.self memory (x.size + c.args.bytes) grows.pages grows.size) in
    (all.fits, all.view)))

pub returns-clause-refused : goal.returns-clause-refused
returns-clause-refused g c =
    let i = c.self.inside in
    let x = c.unwrap-space.result.now in
    let e = there c.args.at c.deref_mut.ensures.value (sym (rw c.unwrap-space.ensures at c.as_mut.ensures.value)) in
    rw (← c.self.view_is, held-is i _ e)
    (err-false c.grow.result c.is_ok.result _ _ _ c.is_ok.ensures.value c.grow.ensures.only
    c.grow.ensures.unchanged (λ why u.
    let more : (274877898752 < x.size + c.args.bytes)
    ⊎ (frames_for (pages_in x.size) + free_count i.memory.ram i.memory.frames
    < frames_for (pages_in (x.size + c.args.bytes))) =
    elim why [ inl large ↦ inl (c.grow.ensures.large.0 large) | inr full ↦ inr (c.grow.ensures.full.0 full).1 ] in (
      over-grown c.self.invariant.spaces c.args.at x c.args.bytes (marks_from c.args.perm) e
          c.frames_are_whole.ensures.small
          more,
      view-same i c.args.at x c.grow.new.memory c.grow.new.self _ u e
          (refilled c.args.at c.deref_mut.ensures.value refl),
    )))
