use Rattle.mount.proofs.Common.{ap, ◌∙◌, inodes-is, size-is, super_of}
use Rattle.mount.proofs.device.read_geometry.Goals as goal

pub returns-clause-numbers : goal.returns-clause-numbers
returns-clause-numbers g c =
    let blocks = g.D.BlockDev.content c.args.device.now in
    let sizes = g.met.D.BlockDev.sizes c.args.device.now in
    let numbers = c.from_front-numbers.ensures ∙ ap super_of c.in_ok-block.ensures.bytes in
    record {
      size = size-is blocks sizes c.requires c.from_front-numbers.result numbers;
      inodes = inodes-is blocks sizes c.requires c.from_front-numbers.result numbers;
    }
