use Rattle.vm.proofs.Common.{◌≡◌, ◌≤◌, ◌+◌, ◌-◌, length, drop, write_bytes, pages_of, Reframes, StaysOpen}
use Rattle.vm.proofs.Space.fill.Given as goal

abbrev pub invariant-loop-done : goal.invariant-loop-done
invariant-loop-done l = record {
  within : l.done ≤ length l.bytes;
  rest : write_bytes (pages_of l.memory.ram l.self) (l.address + l.done) (drop l.done l.bytes)
      ≡ write_bytes (pages_of l.initial.memory.ram l.self) l.address l.bytes;
  frames : Reframes l.initial.memory.ram l.memory.ram l.self l.initial.memory.frames l.memory.frames;
  opens : StaysOpen l.initial.memory.ram l.memory.ram l.self l.self;
}

abbrev pub decreases-loop-done : goal.decreases-loop-done
decreases-loop-done l = length l.bytes - l.done
