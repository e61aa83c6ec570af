use Rattle.gdbserver.specs.Debugging.{OnlyAdds}
use Rattle.gdbserver.proofs.session.Session.take_all.Given as goal

-- what was typed so far is at the end
abbrev pub invariant-loop-byte : goal.invariant-loop-byte
invariant-loop-byte g l = OnlyAdds l.fn.timeline l.timeline
