use Rattle.std.proofs.Common.{length, take, ◌-◌, ◌≤◌}
use Rattle.std.specs.Io.KnownBytes.{Appends}
use Rattle.driver.proofs.tail.TailOut.put.Given as goal

abbrev pub invariant-loop-done : goal.invariant-loop-done
invariant-loop-done g l = record {
  took : Appends l.fn.self.contents l.self.contents (take l.done l.bytes);
  within : l.done ≤ length l.bytes;
  later : l.fn.self.failed ≤ l.self.failed;
}

abbrev pub decreases-loop-done : goal.decreases-loop-done
decreases-loop-done g l = length l.bytes - l.done
