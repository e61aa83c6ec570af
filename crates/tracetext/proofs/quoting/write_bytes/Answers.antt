use Rattle.std.proofs.Common.{arith, refl, rules}
use Rattle.std.proofs.Output.{has_written_append, has_written_of_eq}
use Rattle.tracetext.proofs.TextLemmas.{all_of_them, none_so_far, one_more}
use Rattle.tracetext.proofs.quoting.write_bytes.Goals as goal

pub loop-index-init : goal.loop-index-init
loop-index-init g c = rw (none_so_far c.args.bytes.now) (search rules)

pub loop-index-preserved : goal.loop-index-preserved
loop-index-preserved g c plain =
    let so_far = c.loop-index.invariant plain in
    has_written_of_eq _ _ _ _ _
    (one_more c.loop-index.index c.args.bytes.now _ (search (rules, c.loop-index-test.true)) c.byte_at.ensures)
    (has_written_append _ _ _ _ _ _ so_far (c.in_ok-write_byte.ensures so_far.plain refl))

pub returns : goal.returns
returns g c plain ok =
    has_written_of_eq _ _ _ _ _
    (all_of_them c.loop-index.index c.args.bytes.now (omega (arith, c.loop-index-test.false)))
    (c.loop-index.invariant plain)
