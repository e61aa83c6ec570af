use Rattle.std.proofs.Common.{◌*◌}
use Rattle.std.proofs.Math.Nat.{mod-add-mod}
use Rattle.events.specs.Clocks.{stirred}
use Rattle.events.proofs.clock.stir.Goals as goal

pub returns : goal.returns
unfolding stirred
returns c = mod-add-mod (c.args.state * 6364136223846793005) 18446744073709551616 1442695040888963407
