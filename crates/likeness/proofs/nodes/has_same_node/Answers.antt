use Rattle.std.proofs.Common.{arith}
use Rattle.likeness.proofs.Reading.{node-done, node-there}
use Rattle.likeness.proofs.nodes.has_same_node.Goals as goal

pub has_same_minor-requires-clause-node : goal.has_same_minor-requires-clause-node
has_same_minor-requires-clause-node g c = node-there c.args.number c.in-Ok.ensures c.in-Some.is

pub has_same_minor-requires-clause-their_node : goal.has_same_minor-requires-clause-their_node
has_same_minor-requires-clause-their_node g c =
    node-there c.args.number c.in-Ok-look.ensures c.in-Some-their_told.is

pub returns : goal.returns
returns g c = node-done c.has_same_blocks.new.one c.has_same_blocks.new.other c.args.number c.div_ceil.result
    c.has_same_blocks.result (c.files_are_whole.ensures.places c.args.number)
    (c.files_are_whole-2.ensures.places c.args.number) c.in-Ok.ensures c.in-Some.is c.in-Ok-look.ensures
    c.in-Some-their_told.is c.if-not-is_same_stat.ensures c.in_ok-has_same_minor.ensures c.if-not-branch.false
    (omega (arith, c.div_ceil.ensures)) c.has_same_blocks.ensures
