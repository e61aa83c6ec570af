use Rattle.std.proofs.Common.{ap, arith, sym, subst, ◌+◌}
use Rattle.timeline.proofs.GoingOn.{is-at-on}
use Rattle.timeline.specs.Inside.{IsAt}
use Rattle.timeline.specs.Line.{Line}
use Rattle.timeline.proofs.timeline.Timeline.replay.Goals as goal

pub loop-self-preserved : goal.loop-self-preserved
loop-self-preserved c =
    let before = c.loop-self.invariant in
    let some = c.from-in-loop-self.ensures in
    let most = c.give_some.ensures.within in
    let here = is-at-on c.loop-self.self-inside.begin.state c.loop-self.self-inside.events before.timeline.goes
    c.loop-self.self-inside.at c.give_some.result c.in-Some.times c.in-Some.event
    before.timeline.here c.in-Some.ensures.some (omega arith) c.give_some.ensures.sound c.give_some.ensures.state in
    record {
      timeline = record {
        sound = before.timeline.sound;
        goes = before.timeline.goes;
        near = before.timeline.near;
        here = subst (λ n. IsAt c.loop-self.self-inside.begin.state c.loop-self.self-inside.events
            (c.loop-self.self-inside.at + n) c.give_some.new.machine) (sym some) here;
        copies = before.timeline.copies;
      };
      same = ap (λ (l : Line). record l { at = c.loop-self.self-inside.at + c.from-in-loop-self.result }) before.same;
      early = omega (arith, some, most);
    }
