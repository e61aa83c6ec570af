use Rattle.digests.proofs.Common.{arith, contents_mixed, lost-reads, lost-then, rules, ◌∙◌, ◌≡◌}
use Rattle.digests.proofs.Steps.{all-done, begun, block-next}
use Rattle.digests.proofs.nodes.mix_contents.Goals as goal

pub loop-k-init : goal.loop-k-init
loop-k-init g c = begun c.args.kernel.now _ _ c.requires

pub returns-in_err-count : goal.returns-in_err-count
returns-in_err-count g c =
    lost-reads _ _ _ c.from_residual.result c.from_residual.ensures.0
    (lost-then c.loop-k.invariant.read c.in_err-count.ensures)

pub loop-k-preserved : goal.loop-k-preserved
loop-k-preserved g c = block-next c.args.number c.loop-k.k c.args.digest _ c.loop-k.invariant (search rules)
    c.in_ok-count.ensures c.mix_bytes-digest.ensures

pub returns : goal.returns
unfolding contents_mixed
returns g c = all-done _ _ _ _ c.loop-k.invariant
    (let all : c.loop-k.k ≡ c.div_ceil-k-end.result = omega (arith, c.loop-k-test.false, c.loop-k.auto.k-end) in all
    ∙ c.div_ceil-k-end.ensures)
