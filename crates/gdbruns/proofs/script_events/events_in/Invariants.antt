use Rattle.std.proofs.Common.{take, ◌≡◌}
use Rattle.events.specs.Scripts.{script_events}
use Rattle.gdbruns.proofs.script_events.events_in.Given as goal

-- the commands so far are spelled

abbrev pub invariant-loop-command : goal.invariant-loop-command
invariant-loop-command l = l.events ≡ script_events (take l.command-index l.script)
