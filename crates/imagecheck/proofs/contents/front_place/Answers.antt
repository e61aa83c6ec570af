use Rattle.imagecheck.proofs.Common.{arith, refl, HasBlocks-of, HasPlace-at, inodes-most}
use Rattle.imagecheck.proofs.Parents.{first-data}
use Rattle.imagecheck.proofs.contents.front_place.Goals as goal

pub inode_place-requires : goal.inode_place-requires
inode_place-requires c = let h =
    c.requires.directory.high in omega (arith, inodes-most c.requires.geometry, c.requires.geometry.inodes)

pub number32-requires : goal.number32-requires
number32-requires c =
    let h = c.requires.directory.high in
    omega (
      arith,
      (HasPlace-at c.requires.geometry c.args.n (omega (arith, c.requires.geometry.inodes))).inside,
      c.inode_place.ensures,
    )

pub returns-clause-place : goal.returns-clause-place
returns-clause-place c = rw (c.number32.ensures, c.inode_place.ensures) refl

pub returns-clause-inside : goal.returns-clause-inside
returns-clause-inside c =
    rw (c.number32.ensures, c.inode_place.ensures)
    (first-data _ (HasBlocks-of c.args.image.now c.requires.blocks) _ c.requires.directory).2
