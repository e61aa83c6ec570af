use Rattle.calls.proofs.Common.{ap, Kernel, quiet, state-but, sym, ticked, ◌∙◌}
use Rattle.calls.proofs.Acts.{ticked-tree}
use Rattle.calls.proofs.Takes.{next-ticks}
use Rattle.calls.proofs.events.tick.Goals as goal

pub returns-clause-gives : goal.returns-clause-gives
returns-clause-gives g c =
    let k = c.args.kernel.now in
    let s = c.is_sound.ensures in
    next-ticks k s.sound s.zero s.aligned ∙ ap quiet (sym (state-but (ticked k) c.interrupt.ensures))

pub returns-clause-tree : goal.returns-clause-tree
returns-clause-tree g c = ap (λ (k : Kernel). k.tree) c.interrupt.ensures ∙ ticked-tree c.args.kernel.now
