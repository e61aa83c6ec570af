use Rattle.pipe.proofs.Common.{◌<◌, arith, length, refl, sym, take_more_set}
use Rattle.pipe.proofs.Steps.{ring-more, ring-none}
use Rattle.pipe.proofs.copy_out.Goals as goal

pub loop-i-init : goal.loop-i-init
loop-i-init c = sym (ring-none _ _ 0 refl)

pub loop-i-preserved : goal.loop-i-preserved
loop-i-preserved c =
    let inside : c.loop-i.i < length c.loop-i.buffer = omega arith in
    rw (take_more_set c.loop-i.buffer c.loop-i.i _ inside, c.loop-i.invariant) (sym (ring-more _ _ _))
