use Rattle.std.proofs.Common.{refl, subst, sym}
use Rattle.std.proofs.lemmas.List.Elements.{All-same}
use Rattle.machine.specs.View.{View}
use Rattle.timeline.proofs.GoingOn.{at-start}
use Rattle.timeline.specs.Inside.{IsAt, IsCopy}
use Rattle.timeline.proofs.timeline.Timeline.rewind.Goals as goal

pub invariant_of-self-2 : goal.invariant_of-self-2
invariant_of-self-2 c =
    let begin = at-start c.self.inside.events refl c.self.invariant.sound in
    let found = c.last_before-at.ensures.at c.self.inside.begin.state c.self.inside.events begin
    (All-same (IsCopy c.self.inside.begin.state c.self.inside.events) c.deref.result.now c.self.inside.copies.items
    c.deref.ensures.value c.self.invariant.copies) c.self.invariant.near in
    record {
      sound = c.self.invariant.sound;
      goes = c.self.invariant.goes;
      near = c.self.invariant.near;
      here = subst (λ (v : View). IsAt c.self.inside.begin.state c.self.inside.events c.last_before-at.result.0 v)
          (sym c.if-not-become_copy.ensures.copied) found;
      copies = c.self.invariant.copies;
    }
