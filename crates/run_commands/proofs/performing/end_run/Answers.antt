use Rattle.run_commands.proofs.Showing.{written-out}
use Rattle.run_commands.proofs.performing.end_run.Goals as goal

pub returns-clause-written : goal.returns-clause-written
returns-clause-written g c =
    rw (← c.into_parts-machine.ensures.out)
    (written-out (g.W.Write.contents c.into_parts-stdout.result.0) c.into_parts-stdout.ensures.contents
    c.flush.ensures.bytes c.into_parts-stdout.ensures.failed _ c.end_with.ensures.sound c.end_with.ensures.fault)
