use Rattle.digests.proofs.Common.{arith, files_mixed, lost-reads, lost-then, ◌∙◌, ◌≡◌}
use Rattle.digests.proofs.Steps.{all-done, begun, node-next}
use Rattle.digests.proofs.nodes.mix_files.Goals as goal

pub loop-number-init : goal.loop-number-init
loop-number-init g c = begun c.args.kernel.now _ _ c.requires

pub returns-in_err-digest : goal.returns-in_err-digest
returns-in_err-digest g c =
    lost-reads _ _ _ c.from_residual.result c.from_residual.ensures.0
    (lost-then c.loop-number.invariant.read c.in_err-digest.ensures)

pub loop-number-preserved : goal.loop-number-preserved
loop-number-preserved g c = node-next c.loop-number.number c.args.digest c.loop-number.invariant c.in_ok-digest.ensures

pub returns : goal.returns
unfolding files_mixed
returns g c = all-done _ _ _ _ c.loop-number.invariant
    (let all : c.loop-number.number ≡ c.numbers-numbers.result =
    omega (arith, c.loop-number-test.false, c.loop-number.auto.number-end) in all ∙ c.numbers-numbers.ensures)
