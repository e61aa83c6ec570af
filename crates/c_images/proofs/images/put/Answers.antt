use Rattle.std.proofs.Common.{Global, length, Vec, ℕ, ◌≡◌}
use Rattle.c_images.proofs.Both.{if-both}
use Rattle.image_files.specs.Opened.{IsPut}
use Rattle.c_images.proofs.images.put.Goals as goal

pub returns : goal.returns
returns c = (
  c.put.result,
  c.put_bytes.ensures.number,
  c.put_bytes.ensures.copied,
  if-both (λ (left : Vec ℕ Global). IsPut c.args.image.now c.args.path.now c.args.bytes.now left.items)
      (λ (left : Vec ℕ Global). length left.items ≡ length c.args.image.now) c.put.result c.put.ensures.put
      c.put.ensures.length,
)
