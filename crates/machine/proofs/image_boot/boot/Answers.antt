use Rattle.machine.proofs.image_boot.boot.Goals as goal
use Rattle.machine.proofs.Booting.{booted-from, counted-from, refused-from, unmounted-why}
use Rattle.machine.proofs.Common.{arith, image_of, IsUnbooted, subst, sym}

pub returns-in-Ok : goal.returns-in-Ok
returns-in-Ok g c = record {
  booted = booted-from c.in-Ok.ensures.mounted c.args.frames c.boot_on.result c.boot_on.ensures.begun;
  refused = refused-from g.D.BlockDev.identity g.D.BlockDev.failures c.args.disk c.in-Ok.ensures.mounted c.args.frames
      c.boot_on.result c.boot_on.ensures.refused;
  count = counted-from g.D.BlockDev.identity g.D.BlockDev.failures c.in-Ok.tree c.args.frames
      (omega (arith, c.if-frames-lt-FEWEST_FRAMES.false)) (omega (arith, c.if-frames-gt-MOST_FRAMES.false))
      c.boot_on.result c.boot_on.ensures.refused;
}

pub returns-in-Err-clause-refused : goal.returns-in-Err-clause-refused
returns-in-Err-clause-refused g c =
    subst (IsUnbooted g.D.BlockDev.identity g.D.BlockDev.failures c.args.disk
    (image_of (g.D.BlockDev.content c.args.disk)) c.args.frames) (sym c.unmounted.ensures)
    (unmounted-why g.D.BlockDev.identity g.D.BlockDev.failures c.args.disk
    (image_of (g.D.BlockDev.content c.args.disk)) c.args.frames c.in-Err.fault c.in-Err.ensures.unmounted)
