use Rattle.std.proofs.Common.{arith}
use Rattle.tree.proofs.Writing.{entry-becomes, entry-high, entry-plain}
use Rattle.tree.proofs.Ending.{turns-become}
use Rattle.tree.proofs.tree.Tree.put_entry.Goals as goal

pub place_bytes-entry-requires : goal.place_bytes-entry-requires
place_bytes-entry-requires g c = let plain =
    entry-plain c.is_whole.ensures c.requires.room _ _ c.requires.plain c.requires.number
    in record { name = plain.most; number = plain.number }

pub overflow_mul-gap : goal.overflow_mul-gap
overflow_mul-gap g c = let high = entry-high c.is_whole.ensures c.requires.room in omega arith

pub rewrite-requires : goal.rewrite-requires
rewrite-requires g c =
    let b = entry-becomes c.is_whole.ensures c.requires.room _ _ c.requires.plain c.requires.number c.requires.fits
    c.place_bytes-entry.ensures in
    record { up = c.requires.up; able = (b.next, b.able) }

pub returns : goal.returns
returns g c = turns-become
    (entry-becomes c.is_whole.ensures c.requires.room _ _ c.requires.plain c.requires.number c.requires.fits
    c.place_bytes-entry.ensures) c.rewrite.ensures
