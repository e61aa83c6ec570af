use Rattle.balloc.proofs.Common.{◌≡◌, ◌+◌, ◌-◌, ◌/◌, ap, arith, get_or, ◌∙◌, sym, get_or-chunk}
use Rattle.balloc.proofs.Clearing.{full_set}
use Rattle.balloc.proofs.bitmap.set_bits.Goals as goal

pub returns-then-full-gt0-clause-set : goal.returns-then-full-gt0-clause-set
returns-then-full-gt0-clause-set c =
    full_set c.args.block.now c.args.i c.full_bytes-full.result (omega (arith, c.if-i-eq0.true))
    (λ k h. sym (get_or-chunk (c.args.i / 8) (1024 - c.args.i / 8) c.args.block.now k 0
    (omega (arith, h, c.full_bytes-full.ensures.within, c.requires))) ∙ c.full_bytes-full.ensures.full k h)

pub returns-then-block-i-clause-set : goal.returns-then-block-i-clause-set
returns-then-block-i-clause-set c =
    full_set c.args.block.now c.args.i 1 (omega (arith, c.if-i-eq0-2.true))
    (λ k h. let e : c.args.i / 8 + k ≡ c.args.i / 8 = omega arith in ap (λ j. get_or c.args.block.now j 0) e
    ∙ c.if-block-i.true)
