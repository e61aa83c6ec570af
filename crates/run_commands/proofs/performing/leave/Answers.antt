use Rattle.std.proofs.Common.{sym, ◌∙◌}
use Rattle.run_commands.proofs.Ends.{leaves-saved, leaves-unsaved}
use Rattle.run_commands.proofs.performing.leave.Goals as goal

pub returns-in-Ok : goal.returns-in-Ok
returns-in-Ok g c first events before after k =
    leaves-saved g.D.BlockDev.content g.D.BlockDev.identity g.D.BlockDev.failures first c.args.machine events before
    after c.args.saves c.args.end c.in-Ok.disk
    c.if-not-saves.false (sym c.status.ensures ∙ c.if-status-ne0.false) k c.in-Ok.ensures

pub returns-in-Err : goal.returns-in-Err
returns-in-Err g c first events before after k =
    leaves-unsaved g.D.BlockDev.content g.D.BlockDev.identity g.D.BlockDev.failures first c.args.machine events before
    after c.args.saves (c.device-device.result.now, c.device-device.ensures.failures) c.args.end c.in-Err.halt
    c.if-not-saves.false (sym c.status.ensures ∙ c.if-status-ne0.false) k c.in-Err.ensures
