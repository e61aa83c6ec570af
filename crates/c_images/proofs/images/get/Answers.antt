use Rattle.c_images.proofs.images.get.Goals as goal

pub returns : goal.returns
returns c = (
  c.get-got.result,
  c.put_bytes.ensures.number,
  c.put_bytes.ensures.copied,
  (c.put_count.ensures, c.get-got.ensures),
)
