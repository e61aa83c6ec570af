use Rattle.pipe.proofs.Common.{◌≡◌, take, ring}
use Rattle.pipe.proofs.copy_out.Given as goal

abbrev pub invariant-loop-i : goal.invariant-loop-i
invariant-loop-i l = take l.i l.buffer ≡ ring 512 l.places l.from l.i
