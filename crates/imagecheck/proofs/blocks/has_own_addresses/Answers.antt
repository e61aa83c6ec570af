use Rattle.std.proofs.lemmas.Bool.{iff_false}
use Rattle.imagecheck.proofs.Common.{Decides-like, HasInode-at, HasPlace-at}
use Rattle.imagecheck.proofs.blocks.has_own_addresses.Goals as goal

pub is_free-requires : goal.is_free-requires
is_free-requires c = HasPlace-at c.requires.geometry _ c.requires.high

pub fits_addresses-requires-clause-inode : goal.fits_addresses-requires-clause-inode
fits_addresses-requires-clause-inode c =
    HasInode-at c.requires.geometry c.requires.sizes _ c.requires.low c.requires.high
    (iff_false c.is_free.ensures c.if-is_free.false)

pub returns-else-is_free : goal.returns-else-is_free
returns-else-is_free c =
    Decides-like _ (λ fits _. fits) (λ h. h (iff_false c.is_free.ensures c.if-is_free.false)) c.fits_addresses.ensures
