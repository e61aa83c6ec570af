use Rattle.std.proofs.Common.{arith, below_more}
use Rattle.std.proofs.lemmas.Bool.{OnTrue_at, OnTrue_from}
use Rattle.likeness.proofs.Growing.{table-fits}
use Rattle.likeness.specs.Pairing.{pairs_of}
use Rattle.likeness.proofs.opened.fit_pipes.Goals as goal

pub loop-q-init : goal.loop-q-init
loop-q-init g c = λ k low. absurd (omega (arith, low))

pub loop-q-preserved : goal.loop-q-preserved
loop-q-preserved g c = below_more _ _ c.loop-q.invariant c.if-not-fits_pipe.ensures

pub returns : goal.returns
returns g c = OnTrue_from c.are_pipes_paired.result _ (λ agreed.
    table-fits (pairs_of c.args.pipes.now) _ _ c.is_sound.ensures.sound.opened.all
    c.is_sound-2.ensures.sound.opened.all c.requires
    (λ k low. c.loop-q.invariant k (omega (arith, low, c.loop-q-test.false, c.loop-q.auto.q-end)))
    (OnTrue_at agreed c.are_pipes_paired.ensures))
