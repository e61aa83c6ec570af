use Rattle.imagecheck.proofs.Common.{◌≡◌, ◌<◌, length, refl, ◌∙◌, arith, image_of-more}
use Rattle.std.proofs.Common.{take_all}
use Rattle.blockdev.specs.Blocks.{block_at}
use Rattle.imagecheck.proofs.Sounding.{Rises-before, not_device, one-fault, err-told}
use Rattle.imagecheck.proofs.load.read_blocks.Goals as goal

pub returns-in_err-image : goal.returns-in_err-image
returns-in_err-image g c =
    let e = err-told c.from_residual.ensures.1 in
    record {
      bytes = rw e tt;
      only = rw e tt;
      reads = record {
        same = refl;
        identity = refl;
        later = omega arith;
        failed = λ is. absurd (not_device (one-fault e is));
      };
    }

pub returns-in_err-block : goal.returns-in_err-block
returns-in_err-block g c =
    let inv = c.loop-n.invariant in
    let e = err-told c.from_residual-in_err-block.ensures.1 in
    record {
      bytes = rw e tt;
      only = rw e tt;
      reads = record {
        same = c.in_err-block.ensures.same ∙ inv.same;
        identity = c.read.ensures.identity ∙ inv.identity;
        later = omega (arith, inv.later, c.in_err-block.ensures.cause.later);
        failed = λ _. Rises-before (g.D.BlockDev.failures c.args.device.now) (g.D.BlockDev.failures c.loop-n.device)
            (g.D.BlockDev.failures c.read.new.self) inv.later (c.in_err-block.ensures.cause.failed refl);
      };
    }

pub returns-in_err-extend_from_slice : goal.returns-in_err-extend_from_slice
returns-in_err-extend_from_slice g c =
    let inv = c.loop-n.invariant in
    let e = err-told c.from_residual-in_err-extend_from_slice.ensures.1 in
    record {
      bytes = rw e tt;
      only = rw e tt;
      reads = record {
        same = c.in_ok-block.ensures.same ∙ inv.same;
        identity = c.read.ensures.identity ∙ inv.identity;
        later = omega (arith, inv.later, c.in_ok-block.ensures.cause.later);
        failed = λ is. absurd (not_device (one-fault e is));
      };
    }

pub loop-n-preserved : goal.loop-n-preserved
loop-n-preserved g c =
    let blocks = g.D.BlockDev.content c.args.device.now in
    let n = c.loop-n.n in
    let inv = c.loop-n.invariant in
    let within : n < length blocks = omega (arith, c.requires.count, c.loop-n-test.true) in
    let read : c.in_ok-block.block ≡ block_at (g.D.BlockDev.content c.loop-n.device) n = c.in_ok-block.ensures.bytes in
    record {
      bytes = rw (c.in_ok-extend_from_slice.ensures.items, inv.bytes, read, inv.same) (image_of-more blocks n within);
      same = c.in_ok-block.ensures.same ∙ inv.same;
      identity = c.read.ensures.identity ∙ inv.identity;
      later = omega (arith, inv.later, c.in_ok-block.ensures.cause.later);
    }

pub returns-clause-bytes : goal.returns-clause-bytes
returns-clause-bytes g c =
    rw (← take_all c.loop-n.n (g.D.BlockDev.content c.args.device.now)
    (omega (arith, c.requires.count, c.loop-n-test.false))) c.loop-n.invariant.bytes
