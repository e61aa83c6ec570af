use Rattle.run_commands.proofs.Showing.{played-out}
use Rattle.run_commands.proofs.performing.play_out.Goals as goal

pub returns : goal.returns
returns g c =
    let first = c.new-driver.ensures in
    rw (c.end_run.ensures.machine, c.end_run.ensures.keeper)
    (played-out c.requires first.written first.shown first.clock (rw (first.machine, first.keeper) at c.give.ensures)
    c.parts-ended.ensures.ended c.parts-ended.ensures.unreached c.end_run.ensures.written)
