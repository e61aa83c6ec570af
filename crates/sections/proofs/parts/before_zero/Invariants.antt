use Rattle.std.proofs.Common.{◌≡◌, ◌++◌, take, drop}
use Rattle.sections.specs.Headers.{before_zero}
use Rattle.sections.proofs.parts.before_zero.Given as goal

-- there is no 0 so far
abbrev pub invariant-loop-length : goal.invariant-loop-length
invariant-loop-length l = before_zero l.bytes ≡ take l.length l.bytes ++ before_zero (drop l.length l.bytes)
