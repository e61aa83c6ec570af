use Rattle.hart.proofs.Common.{arith, length, ◌<◌}
use Rattle.hart.proofs.Stopping.{clear-more}
use Rattle.hart.proofs.stops.BreakpointsStops.clear_to.Goals as goal

pub loop-address-preserved : goal.loop-address-preserved
loop-address-preserved c =
    let before = c.loop-address.invariant in
    let more : c.loop-address.address-index < length c.args.self.now.addresses.now = omega arith in
    let e = c.clear_of-end.ensures in (
      e.within.0,
      omega (arith, e.within.1, before.1),
      clear-more _ c.loop-address.address-index _ _ _ _ more before.2 e.within.1 e.clear,
    )
