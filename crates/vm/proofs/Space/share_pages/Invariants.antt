use Rattle.vm.specs.Fork.{IsSoFar}
use Rattle.vm.proofs.Space.share_pages.Given as goal

abbrev pub invariant-loop-page : goal.invariant-loop-page
invariant-loop-page l = IsSoFar l.fn.memory.ram l.memory.ram l.self l.child l.page l.fn.memory.frames l.memory.frames
