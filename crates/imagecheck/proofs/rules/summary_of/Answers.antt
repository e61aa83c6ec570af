use Rattle.imagecheck.proofs.Common.{◌<◌, ℕ, arith, get_or, HasBlocks-of, Denotes-from}
use Rattle.imagecheck.proofs.rules.summary_of.Goals as goal

pub blocks_in_use-requires-clause-sizes : goal.blocks_in_use-requires-clause-sizes
blocks_in_use-requires-clause-sizes g c = (HasBlocks-of c.args.image.now c.in_ok-test_blocks.ensures).inodes.sizes

pub returns : goal.returns
returns g c =
    let image = c.args.image.now in
    let bytes : (i : ℕ) → get_or image i 0 < 256 = λ i. omega (arith, c.type_inv.image i) in
    let files = c.in_ok-test_files.ensures in
    record {
      denotes = λ f magic. Denotes-from image (HasBlocks-of image c.in_ok-test_blocks.ensures) bytes f magic
          files.entries files.links files.reached;
      inodes = c.inodes_in_use.ensures;
      blocks = c.blocks_in_use.ensures;
    }
