use Rattle.std.proofs.Common.{take, ◌≡◌}
use Rattle.explore_command.specs.Keys.{keys_in}
use Rattle.events.specs.Scripts.{script_events}
use Rattle.explore_command.proofs.keys.keys_of.Given as goal

-- the commands so far are typed
abbrev pub invariant-loop-command : goal.invariant-loop-command
invariant-loop-command l = l.keys.items ≡ keys_in (script_events (take l.command-index l.script))
