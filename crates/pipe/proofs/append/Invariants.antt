use Rattle.pipe.proofs.Common.{◌+◌, ◌++◌, ◌≡◌, length, take, ring}
use Rattle.pipe.proofs.append.Given as goal

abbrev pub invariant-loop-i : goal.invariant-loop-i
invariant-loop-i l = record {
  bytes : ring 512 l.places l.from (l.held + l.i) ≡ ring 512 l.fn.places l.from l.held ++ take l.i l.bytes;
  size : length l.places ≡ 4096;
}
