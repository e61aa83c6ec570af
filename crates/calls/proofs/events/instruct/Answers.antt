use Rattle.calls.proofs.Common.{ap, Kernel, quiet, runner-of, state_of, sym, ◌∙◌}
use Rattle.calls.proofs.Acts.{same-served}
use Rattle.calls.proofs.Takes.{made-quiet, step-computes}
use Rattle.calls.proofs.events.instruct.Goals as goal

pub returns-in-None-clause-gives : goal.returns-in-None-clause-gives
returns-in-None-clause-gives g c =
    let d = c.in-None.ensures.done in
    made-quiet c.execute.new.self _ (g.W.Out.contents c.args.console.now)
    (step-computes (runner-of c.requires.sound c.requires.active) d.1
    ∙ ap (λ (k : Kernel). quiet (state_of k)) (sym d.2))

pub returns-in-None-clause-tree : goal.returns-in-None-clause-tree
returns-in-None-clause-tree g c = same-served (ap (λ (k : Kernel). k.tree) c.in-None.ensures.done.2) c.requires.up

pub take_trap-requires : goal.take_trap-requires
take_trap-requires g c = let t =
    c.in-Some.ensures.trap in rw t.1 (record { running = c.requires.active; up = c.requires.up; traps = t.0 })
