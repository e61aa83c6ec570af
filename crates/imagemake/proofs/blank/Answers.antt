use Rattle.std.proofs.Common.{◌≡◌, ◌*◌, ◌/◌, ap, arith, length, refl, subst, sym, ◌∙◌}
use Rattle.blockdev.specs.Blocks.{AreBlocks, blocks_of}
use Rattle.blockdev.specs.Sizes.{AreBlocks-blocks_of, length-blocks_of}
use Rattle.imagemake.proofs.Imaging.{blank-made}
use Rattle.imagemake.proofs.blank.Goals as goal

pub format-requires : goal.format-requires
format-requires c =
    let long : length c.in-Ok.device.bytes ≡ 1024 * c.args.geometry.size =
    omega (arith, ap length c.in-Ok.ensures.bytes, c.in_ok-bytes.ensures.len, c.in_ok-bytes.bytes.ok.0) in
    let whole : length c.in-Ok.device.bytes / 1024 ≡ c.args.geometry.size = omega arith in
    let blocks : c.in_ok-disk.disk.blocks ≡ blocks_of c.in-Ok.device.bytes = rw c.in_ok-disk.ensures.made refl in
    let p = c.requires in
    record {
      parts = record {
        count = ap length blocks ∙ length-blocks_of c.in-Ok.device.bytes ∙ whole;
        sizes = subst AreBlocks (sym blocks) (AreBlocks-blocks_of c.in-Ok.device.bytes);
        size_high = p.size_high;
        inodes_low = p.inodes_low;
        inodes_high = p.inodes_high;
        room = p.room;
      };
      size = p.size_low;
    }

pub new-volume-requires : goal.new-volume-requires
new-volume-requires c = c.in-Ok-format.ensures.done.sound

pub returns-clause-blank : goal.returns-clause-blank
returns-clause-blank c = blank-made c.in-Ok-format.ensures.done c.new-volume.ensures
