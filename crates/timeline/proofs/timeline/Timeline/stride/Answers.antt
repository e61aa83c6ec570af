use Rattle.std.proofs.Common.{ap, arith, subst, sym}
use Rattle.stretches.specs.Stretches.{IsAhead}
use Rattle.timeline.proofs.GoingOn.{ahead-less, stayed}
use Rattle.timeline.specs.Line.{Line}
use Rattle.timeline.proofs.timeline.Timeline.stride.Goals.{in-Step, in_default}
use Rattle.timeline.proofs.timeline.Timeline.stride.Goals as goal

pub go_by_one-requires : goal.go_by_one-requires
go_by_one-requires g c =
    let one = ahead-less c.args.self.now.events c.args.self.now.at 1 c.args.times c.args.event c.requires
    (omega arith) c.requires.some in
    let no = c.if-at-before.false in
    let now = c.at.ensures in
    let was = c.at-before.ensures in
    elim c.match-event.branch [
      | in-Step w ↦ subst (λ (l : Line). IsAhead l.events l.at (c.args.event, 1)) (sym w.self-is)
          (stayed w.compute.ensures.same w.compute.ensures.later
          (let is = ap (λ (l : Line). l.at) w.self-is in omega (arith, no, now, was, is)) one)
      | in_default w ↦ subst (λ (l : Line). IsAhead l.events l.at (c.args.event, 1)) (sym w.self-is) one
    ]
