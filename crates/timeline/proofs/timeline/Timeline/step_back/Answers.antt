use Rattle.std.proofs.Common.{arith}
use Rattle.timeline.proofs.timeline.Timeline.step_back.Goals as goal

pub seek-is_done-requires : goal.seek-is_done-requires
seek-is_done-requires c = let within = c.is_within.ensures in let at = c.at-before.ensures in omega (arith, within, at)
