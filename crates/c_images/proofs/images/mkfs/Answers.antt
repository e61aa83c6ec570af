use Rattle.std.proofs.Common.{length, rules, subst, ◌≡◌}
use Rattle.c_images.specs.Images.{blocks_for}
use Rattle.imagebytes.specs.Made.{MakesOf}
use Rattle.c_images.proofs.images.mkfs.Goals as goal

pub returns : goal.returns
returns c =
    let blocks : c.blocks_for-blocks.result ≡ blocks_for (length c.args.image.now) = search rules in (
      c.make.result,
      c.put_bytes.ensures.number,
      c.put_bytes.ensures.copied,
      subst (λ b. MakesOf c.args.entries.now c.args.bytes.now b c.args.inodes c.make.result) blocks c.make.ensures,
    )
