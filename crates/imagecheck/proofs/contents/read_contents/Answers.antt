use Rattle.imagecheck.proofs.Common.{◌++◌, take, ap, ◌∙◌, arith, flat_map, contents_in, data_blocks, length_in}
use Rattle.imagecheck.proofs.Common.{HasInode-at, HasPlace-at, FitsAddresses-at, HasBlocks-of}
use Rattle.unixmodel.specs.Image.{block_at}
use Rattle.imagecheck.proofs.contents.read_contents.Goals as goal

pub copy_blocks-requires : goal.copy_blocks-requires
copy_blocks-requires g c =
    let blocks = HasBlocks-of _ c.requires.blocks in
    record {
      inode = HasInode-at c.requires.geometry blocks.inodes.sizes c.args.n c.requires.low c.requires.high
          c.requires.used;
      addresses = FitsAddresses-at c.args.image.now blocks.addresses c.args.n c.requires.low
          (omega (arith, c.requires.geometry.inodes)) c.requires.used;
      rules = c.requires.geometry.rules;
    }

pub size-requires : goal.size-requires
size-requires g c = HasPlace-at c.requires.geometry _ c.requires.high

pub returns : goal.returns
unfolding contents_in
returns g c =
    c.truncate.ensures.items
    ∙ ap (λ m. take m c.copy_blocks.new.bytes.items) c.size.ensures
    ∙ ap (take (length_in c.args.image.now c.args.n))
    (c.in_ok-copy_blocks.ensures
    ∙ ap (λ xs. xs ++ flat_map (block_at c.args.image.now) (data_blocks c.args.image.now c.args.n))
    c.clear.ensures.items)
