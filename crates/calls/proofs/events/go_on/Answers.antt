use Rattle.calls.proofs.Common.{current-is, has-current}
use Rattle.calls.proofs.Acts.{disk-after}
use Rattle.calls.proofs.Takes.{goes-if}
use Rattle.calls.proofs.events.go_on.Goals as goal

pub settle-requires : goal.settle-requires
settle-requires g c = let comes = c.act_on-came.ensures.comes in
    record { running = has-current comes.active; up = comes.served.up; can = rw (current-is comes.active) comes.can }

pub returns : goal.returns
returns g c =
    let on = c.act_on-came.ensures in
    record {
      gives = goes-if on _ c.settle.result (rw (current-is on.comes.active) at c.settle.ensures.gives);
      tree = disk-after _ _ _ c.settle.result on.comes.served c.settle.ensures.tree;
    }
