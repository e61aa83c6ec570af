use Rattle.run_commands.proofs.Sitting.{sits-out}
use Rattle.run_commands.proofs.sessions.sit_out.Goals as goal

pub returns : goal.returns
returns g c =
    let first = c.new-driver.ensures in
    let p = c.into_parts-machine.ensures in
    rw (p.machine, p.keeper)
    (sits-out (g.W.Write.contents c.into_parts-stdout.result.0) first.written
    (rw p.out at c.into_parts-stdout.ensures.contents) c.flush.ensures.bytes first.failed c.requires
    (rw (first.machine, first.keeper) at c.sit-ended.ensures) (rw p.out at c.into_parts-stdout.ensures.failed)
    c.is_ok-is_written.result c.end_with.ensures.sound c.end_with.ensures.fault)
