use Rattle.calls.proofs.Common.{current-is, has-current, here-of, rules, sym, to_z-of_z}
use Rattle.std.proofs.Common.{w32}
use mir.Val.{SFits}
use Rattle.calls.proofs.Waits.{collects, collects-can, wait-blocks}
use Rattle.calls.proofs.process_calls.wait_on.Goals as goal

pub returns-in_default : goal.returns-in_default
returns-in_default g c =
    wait-blocks (here-of c.requires.runs) c.pid-parent.result c.pid-parent.ensures c.args.pending c.requires.number
    c.requires.can (sym c.in_default.ensures.reaped) c.in_default.ensures.collected

pub write_status-requires : goal.write_status-requires
write_status-requires g c =
    let can = collects-can (here-of c.requires.runs) c.pid-parent.result c.pid-parent.ensures c.args.pending
    c.requires.number c.in-Some.ensures.reaped c.in-Some.ensures.collected c.requires.can in
    record { running = has-current can.0; can = rw (current-is can.0) can.1 }

pub returns : goal.returns
returns g c =
    let can = collects-can (here-of c.requires.runs) c.pid-parent.result c.pid-parent.ensures c.args.pending
    c.requires.number c.in-Some.ensures.reaped c.in-Some.ensures.collected c.requires.can in
    let fits : SFits w32 c.in-Some.reaped.status = search rules in
    rw c.from.ensures (collects (here-of c.requires.runs) c.pid-parent.result c.pid-parent.ensures c.args.pending
    c.requires.number c.in-Some.ensures.reaped c.in-Some.ensures.collected c.is_sound.ensures.sound
    (rw (current-is can.0, to_z-of_z w32 c.in-Some.reaped.status fits) at c.write_status.ensures))
