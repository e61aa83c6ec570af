use Rattle.unixmodel.specs.Files.{free_slots}
use Rattle.proc.proofs.Common.{arith, refl}
use Rattle.proc.proofs.Waiting.{within-all}
use Rattle.proc.proofs.table.Table.starting_at.Goals as goal

pub invariant_of-result : goal.invariant_of-result
unfolding free_slots
invariant_of-result c = record {
  all = rw c.in_ok-places.ensures refl;
  last = omega arith;
  pids = let low = c.requires.last in omega arith;
  waiting = rw c.all-2.ensures within-all;
}
