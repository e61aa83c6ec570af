use Rattle.std.proofs.Common.{arith}
use Rattle.likeness.proofs.Reading.{all-nodes, begun, node-next}
use Rattle.likeness.proofs.nodes.has_same_files.Goals as goal

pub loop-number-init : goal.loop-number-init
loop-number-init g c =
    begun c.args.one.now c.args.other.now c.requires.one c.requires.other (λ k low. absurd (omega arith))

pub loop-number-preserved : goal.loop-number-preserved
loop-number-preserved g c = node-next c.loop-number.number c.loop-number.invariant c.in_ok-has_same_node.ensures
    c.if-not-branch.false

pub returns : goal.returns
returns g c = all-nodes c.loop-number.number c.loop-number.invariant
    (omega (arith, c.numbers-numbers.ensures, c.loop-number-test.false, c.loop-number.auto.number-end))
    (omega (arith, c.numbers.ensures, c.if-numbers.false, c.loop-number-test.false, c.loop-number.auto.number-end))
