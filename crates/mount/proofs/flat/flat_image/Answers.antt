use Rattle.mount.proofs.Common.{subst, MakesImage, Refuses, files_made}
use Rattle.mount.proofs.Console.{IsFlatImage-made, not-refused}
use Rattle.mount.proofs.flat.flat_image.Goals as goal

pub returns-in-Ok : goal.returns-in-Ok
returns-in-Ok c =
    let image = c.in-Ok.image.items in
    IsFlatImage-made image (subst (λ entries. MakesImage entries 32 16 image) c.in_ok-manifest.ensures
    c.in-Ok.ensures.made)

pub unreachable-requires : goal.unreachable-requires
unreachable-requires c =
    not-refused _ (subst (λ entries. Refuses (files_made entries 32 16) c.in-Err.fault) c.in_ok-manifest.ensures
    c.in-Err.ensures.refused) c.in_default.not-NoMemory
