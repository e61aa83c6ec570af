use Rattle.std.proofs.Common.{length, refl}
use Rattle.cache.proofs.Using.{goes-stays, read-done, blocks-are, hit, parted}
use Rattle.cache.proofs.Cache.read_part.Goals as goal

pub returns-in-Some : goal.returns-in-Some
returns-in-Some g c =
    read-done goes-stays refl
    (parted c.args.at (length c.args.out.now) _ _ _ c.copy_from_slice.ensures.after
    (hit c.self.inside.held _ _ _ _ (blocks-are c.self.view_is) c.requires.block c.in-Some.ensures))
