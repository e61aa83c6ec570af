use Rattle.imagemake.proofs.Common.{◌≡◌, ◌%◌, ap, arith, length, sym, ◌∙◌, image_of, image_of-blocks}
use Rattle.blockdev.specs.Blocks.{blocks_of}
use Rattle.imagemake.proofs.bytes_left.Goals as goal

pub returns-clause-bytes : goal.returns-clause-bytes
returns-clause-bytes c =
    let whole : length c.into_bytes.result.items % 1024 ≡ 0 =
    omega (arith, c.into_bytes.ensures.whole, c.into_bytes.result.ok.0) in
    sym (image_of-blocks _ whole) ∙ ap (λ b. image_of (blocks_of b)) c.into_bytes.ensures.bytes
