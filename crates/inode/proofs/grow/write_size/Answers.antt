use Rattle.inode.proofs.Common.{◌+◌, ◌*◌, ◌/◌, ◌%◌, ◌∙◌, ap, arith, block_at, set, splice, goes-stays, step-last}
use Rattle.inode.proofs.Found.{WritesInode-size}
use Rattle.inode.proofs.grow.write_size.Goals as goal

pub returns : goal.returns
returns g c =
    let number = c.args.number in
    let old = c.args.disk.now.blocks in
    step-last goes-stays (λ _ wrote. WritesInode-size c.args.geometry old _ number c.args.size c.requires.parts
    c.requires.high (omega arith)
    ((rw (c.at-place.ensures.block, c.at-place.ensures.offset) at wrote)
    ∙ ap (λ bytes. set old (2 + number / 16)
    (splice (64 * (number % 16) + 8) bytes (block_at old (2 + number / 16)))) c.number_bytes.ensures))
    c.write.ensures
