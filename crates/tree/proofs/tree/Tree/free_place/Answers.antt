use Rattle.tree.proofs.Common.{arith, zeros}
use Rattle.tree.proofs.Writing.{erased-becomes, place-high}
use Rattle.tree.proofs.Ending.{turns-become}
use Rattle.tree.proofs.tree.Tree.free_place.Goals as goal

pub overflow_mul-k : goal.overflow_mul-k
overflow_mul-k g c = let high = place-high c.is_whole.ensures c.requires.place in omega arith

pub rewrite-requires : goal.rewrite-requires
unfolding zeros
rewrite-requires g c = let b =
    erased-becomes c.is_whole.ensures c.requires.place in record { up = c.requires.up; able = (b.next, b.able) }

pub returns : goal.returns
unfolding zeros
returns g c = turns-become (erased-becomes c.is_whole.ensures c.requires.place) c.rewrite.ensures
