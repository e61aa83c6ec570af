use Rattle.calls.proofs.Common.{ap, picked, State, state-but, sym, turn-alive, ◌∙◌}
use Rattle.calls.specs.Resuming.{taken}
use Rattle.calls.proofs.Acts.{on-after}
use Rattle.calls.proofs.Takes.{turn-takes}
use Rattle.calls.proofs.events.take_turn.Goals as goal

pub take-requires-clause-alive : goal.take-requires-clause-alive
take-requires-clause-alive g c =
    let found = sym c.in-Some.ensures.turn in
    rw c.in-Some.ensures.picked (turn-alive c.args.kernel.now c.requires.idle c.in-Some.at found)

pub returns-in-Some-clause-gives : goal.returns-in-Some-clause-gives
returns-in-Some-clause-gives g c =
    let found = sym c.in-Some.ensures.turn in
    let same = state-but (picked c.args.kernel.now c.in-Some.at) c.in-Some.ensures.picked in
    on-after _ _ _ c.take.result
    (turn-takes c.args.kernel.now c.in-Some.at c.is_sound.ensures.sound c.requires.idle found
    ∙ ap (λ (s : State). taken s c.in-Some.at) (sym same)) c.take.ensures.gives
