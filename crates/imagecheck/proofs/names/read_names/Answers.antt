use Rattle.imagecheck.proofs.Common.{arith, map-append}
use Rattle.imagecheck.proofs.Entering.{entries_all, entries_more, entries_none}
use Rattle.imagecheck.proofs.names.read_names.Goals as goal

pub loop-k-init : goal.loop-k-init
loop-k-init g c = rw (entries_none c.args.bytes.now) c.clear.ensures.items

pub loop-k-preserved : goal.loop-k-preserved
loop-k-preserved g c =
    rw (
      entries_more c.args.bytes.now c.loop-k.k (omega arith) (omega arith),
      map-append,
      ← c.loop-k.invariant,
      ← c.place_at.ensures.place,
    ) c.in_ok-add_name.ensures

pub returns : goal.returns
returns g c = rw (← entries_all c.args.bytes.now c.loop-k.k (omega arith)) c.loop-k.invariant
