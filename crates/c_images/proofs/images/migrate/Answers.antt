use Rattle.c_images.proofs.images.migrate.Goals as goal

pub returns : goal.returns
returns c = (
  c.migrate.result,
  c.put_bytes.ensures.number,
  c.put_bytes.ensures.copied,
  record {
    migrated = c.migrate.ensures.migrated;
    source = c.migrate.ensures.source;
    size = c.migrate.ensures.size;
    inodes = c.migrate.ensures.inodes;
    image = c.migrate.ensures.image;
    blocks = c.migrate.ensures.blocks;
  },
)
