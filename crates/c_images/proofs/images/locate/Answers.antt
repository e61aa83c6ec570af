use Rattle.c_images.proofs.images.locate.Goals as goal

pub returns : goal.returns
returns c =
    (c.location_of-location.result, c.put_bytes.ensures.number, c.put_bytes.ensures.copied, (c.put_count.ensures, tt))
