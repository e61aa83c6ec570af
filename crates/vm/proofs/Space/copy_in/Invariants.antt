use Rattle.vm.proofs.Common.{◌≡◌, ◌≤◌, ◌-◌, length, take, Load, reach, pages_of}
use Rattle.vm.proofs.Space.copy_in.Given as goal

abbrev pub invariant-loop-done : goal.invariant-loop-done
invariant-loop-done l = record {
  within : l.done ≤ length l.initial.buffer;
  same : take l.done l.buffer ≡ take l.done (reach Load (pages_of l.ram l.self) l.address);
}

abbrev pub decreases-loop-done : goal.decreases-loop-done
decreases-loop-done l = length l.initial.buffer - l.done
