use Rattle.std.proofs.Common.{drop, suc, take, ◌++◌}
use Rattle.std.proofs.lemmas.List.Elements.{All-append, All-drop, All-same, All-take}
use Rattle.timeline.specs.Inside.{IsCopy}
use Rattle.timeline.proofs.timeline.Timeline.thin.Goals as goal

pub loop-index-preserved : goal.loop-index-preserved
loop-index-preserved c =
    let before = c.loop-index.invariant in
    let old = c.loop-index.self-inside.copies.items in
    let index = c.loop-index.index in
    let at = IsCopy c.loop-index.self-inside.begin.state c.loop-index.self-inside.events in
    record {
      timeline = record {
        sound = before.timeline.sound;
        goes = before.timeline.goes;
        near = before.timeline.near;
        here = before.timeline.here;
        copies = All-same at c.remove-copy.new.self.items (take index old ++ drop (suc index) old)
            c.remove-copy.ensures.items
            (All-append at (take index old) (drop (suc index) old) (All-take at index old before.timeline.copies)
            (All-drop at (suc index) old before.timeline.copies));
      };
      same = before.same;
    }
