use Rattle.balloc.proofs.Common.{◌-◌, ◌≤◌, HasFront, Goes}
use Rattle.balloc.proofs.fresh.mark_front.Given as goal

abbrev pub invariant-block : goal.invariant-block
invariant-block g l = record {
  front : HasFront l.geometry l.fn.disk.blocks l.disk.blocks l.b;
  goes : Goes g.D.BlockDev.identity l.fn.disk l.disk;
  within : l.b ≤ l.end;
}

abbrev pub decreases-block : goal.decreases-block
decreases-block g l = l.end - l.b
