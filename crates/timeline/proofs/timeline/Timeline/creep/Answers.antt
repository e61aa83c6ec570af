use Rattle.std.proofs.Common.{arith, refl, rules, subst, sym}
use Rattle.stretches.specs.Stretches.{IsAhead}
use Rattle.timeline.proofs.GoingOn.{ahead-at, crept, crept-on}
use Rattle.timeline.specs.Line.{Line}
use Rattle.unixmodel.specs.declared.event.Event.TheVariants.{Step}
use Rattle.timeline.proofs.timeline.Timeline.creep.Goals as goal

pub compute_one-requires : goal.compute_one-requires
compute_one-requires g c =
    let before = c.loop-instruction.invariant in
    subst (λ (l : Line). IsAhead l.events l.at (Step, 1)) (sym before.same)
    (subst (λ n. IsAhead c.args.self.now.events n (Step, 1)) (sym before.at)
    (ahead-at c.args.self.now.events c.args.self.now.at c.loop-instruction._instruction c.args.times Step c.requires
    c.loop-instruction-test.true))

pub returns-then-not-compute_one : goal.returns-then-not-compute_one
returns-then-not-compute_one g c =
    let before = c.loop-instruction.invariant in
    let less = c.loop-instruction-test.true in
    crept (g.W.Wanted.stops c.args.wanted.now) before.same before.at (omega (arith, less)) before.between
    (c.compute_one.ensures.same (search rules))

pub returns-then-not-passes : goal.returns-then-not-passes
returns-then-not-passes g c =
    let before = c.loop-instruction.invariant in
    crept-on (g.W.Wanted.stops c.args.wanted.now) before.same before.at c.loop-instruction-test.true before.between
    before.here (c.compute_one.ensures.done (search rules)) (c.compute_one.ensures.computes (search rules))

pub returns : goal.returns
returns g c =
    let before = c.loop-instruction.invariant in
    crept (g.W.Wanted.stops c.args.wanted.now) before.same before.at (omega arith) before.between refl
