use Rattle.c_images.proofs.images.assemble.Goals as goal

pub returns : goal.returns
returns c = (
  c.file_of-made.result,
  c.put_bytes.ensures.number,
  c.put_bytes.ensures.copied,
  (
    c.assembled_told.ensures,
    record { made = c.file_of-made.ensures.made; refused = c.file_of-made.ensures.refused },
  ),
)
