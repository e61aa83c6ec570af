use Rattle.std.proofs.Common.{arith, replicate, sym, ◌+◌, ◌-◌, ◌≡◌, ◌∙◌}
use Rattle.std.proofs.lemmas.List.{replicate-append-replicate}
use Rattle.events.proofs.Recording.{records-none, records-then}
use Rattle.explore_command.proofs.script_text.put_steps.Goals as goal
use Rattle.unixmodel.specs.declared.event.Event.TheVariants.{Step}

pub loop-left-init : goal.loop-left-init
loop-left-init c =
    let none : c.args.count - c.args.count ≡ 0 = omega arith in
    record { recorded = rw none (records-none c.args.transcript.now); within = omega arith }

pub loop-left-preserved : goal.loop-left-preserved
loop-left-preserved c =
    let before = c.loop-left.invariant in
    let next : c.args.count - (c.loop-left.left - c.min-some.result)
    ≡ c.args.count - c.loop-left.left + c.min-some.result =
    omega (arith, before.within, c.min-some.ensures) in
    record {
      recorded = rw (next, sym (replicate-append-replicate (c.args.count - c.loop-left.left) c.min-some.result Step))
          (records-then _ _ _ _ _ before.recorded c.steps.ensures.records);
      within = omega (arith, before.within);
    }
