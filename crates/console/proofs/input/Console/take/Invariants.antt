use Rattle.console.proofs.Common.{◌+◌, ◌-◌, ◌≡◌, ◌≤◌, length, take, take_line, behind}
use Rattle.console.proofs.input.Console.take.Given as goal

abbrev pub invariant-loop-count : goal.invariant-loop-count
invariant-loop-count l = record {
  same : behind (take l.count l.buffer) (take_line l.has_some (l.n - l.count) l.self.committed)
      ≡ take_line l.fn.has_some l.n l.fn.self.committed;
  edited : l.self.edited ≡ l.fn.self.edited;
  left : l.count + length l.self.committed ≤ 128;
  within : l.count ≤ l.n;
}

abbrev pub decreases-loop-count : goal.decreases-loop-count
decreases-loop-count l = l.n - l.count
