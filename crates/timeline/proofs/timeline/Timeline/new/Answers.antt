use Rattle.std.proofs.Common.{[], ap, sym, ◌∙◌}
use Rattle.std.proofs.lemmas.List.Elements.{All-nil, All-same}
use Rattle.machine.specs.View.{View}
use Rattle.timeline.proofs.GoingOn.{at-start}
use Rattle.timeline.specs.Inside.{IsCopy}
use Rattle.timeline.proofs.timeline.Timeline.new.Goals as goal

pub invariant_of-result : goal.invariant_of-result
invariant_of-result c =
    let sound = ap (λ (v : View). v.failed) c.in_ok-begin.ensures ∙ c.requires.sound in
    record {
      sound = sound;
      goes = ap (λ (v : View). v.state.halted) c.in_ok-begin.ensures ∙ c.requires.goes;
      here = at-start c.args.events (sym c.in_ok-begin.ensures) sound;
      near = at-start c.args.events (c.in_ok-second.ensures ∙ sym c.in_ok-begin.ensures) sound;
      copies = All-same (IsCopy c.in_ok-begin.begin.state c.args.events)
          c.new.result.items [] c.new.ensures.items
          (All-nil (IsCopy c.in_ok-begin.begin.state c.args.events));
    }
