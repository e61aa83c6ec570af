use Rattle.std.proofs.Common.{◌≡◌}
use Rattle.gdbmotions.proofs.tracer.Tracer.go_on.Given as goal

-- the machine only moves
abbrev pub invariant-loop-pass : goal.invariant-loop-pass
invariant-loop-pass l = l.timeline ≡ record l.fn.timeline { at = l.timeline.at }
