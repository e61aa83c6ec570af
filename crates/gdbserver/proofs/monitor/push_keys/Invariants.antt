use Rattle.gdbserver.specs.Debugging.{OnlyAdds}
use Rattle.gdbserver.proofs.monitor.push_keys.Given as goal

-- the keys so far are at the end
abbrev pub invariant-loop-key : goal.invariant-loop-key
invariant-loop-key l = OnlyAdds l.fn.timeline l.timeline
