use Rattle.console.proofs.Common.{length, ◌-◌, ◌≡◌, ◌≤◌, take, Appends}
use Rattle.console.proofs.output.WriterOut.put.Given as goal

abbrev pub invariant-loop-done : goal.invariant-loop-done
invariant-loop-done g l = record {
  took : Appends (g.W.Write.contents l.fn.self.inner) (g.W.Write.contents l.self.inner) (take l.done l.bytes);
  within : l.done ≤ length l.bytes;
  sound : l.self.failed ≡ l.fn.self.failed;
}

abbrev pub decreases-loop-done : goal.decreases-loop-done
decreases-loop-done g l = length l.bytes - l.done
