use Rattle.imagecheck.proofs.Common.{◌∙◌, arith, Decides-eqb, same_from_decides, HasPlace-at}
use Rattle.imagecheck.proofs.Entering.{is_directory-is}
use Rattle.imagecheck.proofs.tables.is_directory.Goals as goal

pub is_directory-requires : goal.is_directory-requires
is_directory-requires c = HasPlace-at c.requires.geometry _ c.requires.high

pub returns : goal.returns
returns c = same_from_decides _ _ c.is_directory.ensures (Decides-eqb _ 1)
    ∙ is_directory-is _ _ c.requires.low (omega (arith, c.requires.geometry.inodes, c.requires.high))
