use Rattle.std.proofs.Common.{arith}
use Rattle.std.proofs.lemmas.Grind.{common_steps}
use Rattle.jsonrows.specs.Rows.{rows_below}
use Rattle.jsonrows.proofs.Rowing.{rows_more}
use Rattle.jsonrows.proofs.descriptors.descriptor_rows.Goals as goal

pub loop-descriptor-init : goal.loop-descriptor-init
unfolding rows_below
loop-descriptor-init c = c.new-rows.ensures.items

pub loop-descriptor-preserved : goal.loop-descriptor-preserved
loop-descriptor-preserved c =
    let more = rows_more c.args.descriptors.now c.loop-descriptor.descriptor in
    first_of (cc, grind (arith, common_steps))
