use Rattle.inode.proofs.Common.{◌/◌, ◌∙◌, ap, arith, refl, subst, Fits, inode_of, slot_in}
use Rattle.inode.proofs.Reading.{HasInode-read, index_in_disk, slot_asked}
use Rattle.inode.proofs.find.find.Goals as goal

pub number_of-requires-clause-asked : goal.number_of-requires-clause-asked
number_of-requires-clause-asked g c =
    slot_asked (HasInode-read c.requires.sound c.requires.inode (ap inode_of c.in-Some.ensures.bytes)) refl
    (c.args.at / 1024) (omega (arith, c.if-slot-div_ceil.false, c.div_ceil.ensures, c.read_number-size.ensures))

pub number_of-requires-clause-index : goal.number_of-requires-clause-index
number_of-requires-clause-index g c =
    index_in_disk (HasInode-read c.requires.sound c.requires.inode (ap inode_of c.in-Some.ensures.bytes)) refl

pub returns : goal.returns
returns g c = record {
  fits = subst Fits (ap inode_of c.in-Some.ensures.bytes) c.in-Some-number_of.ensures.fits;
  size = c.read_number-size.ensures ∙ ap (λ b. (inode_of b).size) c.in-Some.ensures.bytes;
  there = omega (arith, c.if-slot-div_ceil.false, c.div_ceil.ensures);
  block = c.in-Some-number_of.ensures.number
      ∙ ap (λ b. slot_in c.args.disk.now.blocks (inode_of b) (c.args.at / 1024)) c.in-Some.ensures.bytes;
}
