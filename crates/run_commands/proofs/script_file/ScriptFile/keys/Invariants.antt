use Rattle.std.proofs.Common.{map, take}
use Rattle.run_commands.specs.ScriptFiles.{Takes}
use Rattle.run_commands.proofs.script_file.ScriptFile.keys.Given as goal
use Rattle.unixmodel.specs.declared.event.Event.TheVariants.{Key}

-- the keys so far are recorded
abbrev pub invariant-loop-key : goal.invariant-loop-key
invariant-loop-key g l =
    Takes (g.H.Host.files l.fn.host) (g.H.Host.files l.host) l.fn.self l.self (take l.key-index (map Key l.keys))
