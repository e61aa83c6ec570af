use Rattle.c_images.proofs.images.check.Goals as goal

pub returns : goal.returns
returns c = (
  c.check.result,
  c.put_summary.ensures.number,
  c.put_summary.ensures.put,
  record {
    denotes = c.check.ensures.denotes;
    inodes = c.check.ensures.inodes;
    blocks = c.check.ensures.blocks;
    fault = c.check.ensures.fault;
    refused = c.check.ensures.refused;
  },
)
