use Rattle.c_images.proofs.images.list.Goals as goal

pub returns : goal.returns
returns c = (c.list-listed.result, c.put_bytes.ensures.number, c.put_bytes.ensures.copied, (c.put_count.ensures, tt))
