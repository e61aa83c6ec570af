use Rattle.balloc.proofs.Common.{◌-◌, ◌≤◌, HasParts, Cleared, Goes}
use Rattle.balloc.proofs.fresh.clear.Given as goal

abbrev pub invariant-block : goal.invariant-block
invariant-block g l = record {
  parts : HasParts l.fn.geometry l.disk.blocks;
  cleared : Cleared l.disk.blocks l.k;
  goes : Goes g.D.BlockDev.identity l.fn.disk l.disk;
  within : l.k ≤ l.end;
}

abbrev pub decreases-block : goal.decreases-block
decreases-block g l = l.end - l.k
