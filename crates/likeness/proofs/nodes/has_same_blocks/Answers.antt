use Rattle.std.proofs.Common.{refl}
use Rattle.likeness.proofs.Reading.{begun, block-next}
use Rattle.likeness.proofs.nodes.has_same_blocks.Goals as goal

pub loop-k-init : goal.loop-k-init
loop-k-init g c = begun c.args.one.now c.args.other.now c.requires.one c.requires.other refl

pub loop-k-preserved : goal.loop-k-preserved
loop-k-preserved g c = block-next c.args.number c.loop-k.k c.loop-k.invariant c.in_ok-has_same_block.ensures
    c.if-not-branch.false
