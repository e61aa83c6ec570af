use Rattle.imagecheck.proofs.Common.{arith, append_assoc, map-append}
use Rattle.imagecheck.proofs.Entering.{entries_all, entries_more}
use Rattle.imagecheck.proofs.namings.add_entries.Goals as goal

pub loop-k-preserved : goal.loop-k-preserved
loop-k-preserved g c =
    rw (
      entries_more c.args.bytes.now c.loop-k.k (omega arith) (omega arith),
      map-append,
      ← append_assoc,
      ← c.loop-k.invariant,
      ← c.place_at.ensures.place,
    ) c.in_ok-add_entry.ensures

pub returns : goal.returns
returns g c = rw (← entries_all c.args.bytes.now c.loop-k.k (omega arith)) c.loop-k.invariant
