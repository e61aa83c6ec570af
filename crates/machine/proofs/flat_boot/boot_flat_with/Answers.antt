use Rattle.machine.proofs.flat_boot.boot_flat_with.Goals as goal
use Rattle.machine.proofs.FlatSpaces.{counted-flat, only-flat}
use Rattle.std.proofs.Common.{arith}

pub returns : goal.returns
returns g c = record {
  booted = c.boot_flat_on.ensures.booted;
  up = c.boot_flat_on.ensures.up;
  count = counted-flat c.args.frames (omega (arith, c.if-frames-lt-FEWEST_FRAMES.false))
      (omega (arith, c.if-frames-gt-MOST_FRAMES.false)) c.boot_flat_on.result c.boot_flat_on.ensures.only;
  no_init = c.boot_flat_on.ensures.no_init;
  only = only-flat c.boot_flat_on.result c.boot_flat_on.ensures.only;
}
