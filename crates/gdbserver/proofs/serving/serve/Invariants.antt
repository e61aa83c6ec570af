use Rattle.gdbserver.specs.Debugging.{OnlyAdds}
use Rattle.gdbserver.proofs.serving.serve.Given as goal

-- what was typed so far is at the end
abbrev pub invariant-loop-read : goal.invariant-loop-read
invariant-loop-read g l = OnlyAdds l.fn.timeline l.timeline
