use Rattle.imagemake.proofs.Imaging.{when-ok}
use Rattle.imagemake.proofs.Makers.{image-made}
use Rattle.imagemake.proofs.maker.Maker.into_image.Goals as goal

pub into_device-device-requires : goal.into_device-device-requires
into_device-device-requires c = record { up = c.requires.has.made_so_far.up }

pub returns-clause-image : goal.returns-clause-image
returns-clause-image c =
    when-ok c.into_device-device.result.1 _ c.into_device-device.ensures.stored c.bytes_left.ensures.flushed
    c.bytes_left.ensures.bytes
    (λ image stored bytes size inodes entries has. image-made has stored bytes)
