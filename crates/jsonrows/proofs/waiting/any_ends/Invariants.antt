use Rattle.std.proofs.Common.{◌≡◌, drop}
use Rattle.jsonrows.specs.Enders.{any_ends}
use Rattle.jsonrows.proofs.waiting.any_ends.Given as goal

-- none of those so far is the other end
abbrev pub invariant-loop-file : goal.invariant-loop-file
invariant-loop-file g l = any_ends l.machine.state l.wait l.descriptors
    ≡ any_ends l.machine.state l.wait (drop l.file-index l.descriptors)
