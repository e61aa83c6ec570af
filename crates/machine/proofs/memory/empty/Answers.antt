use Rattle.machine.proofs.memory.empty.Goals as goal
use Rattle.machine.proofs.Common.{ap, IfOk, length, length-replicate, no_spaces, replicate, subst, ◌∙◌, ◌≡◌}

pub returns : goal.returns
returns g c = subst (λ n. IfOk c.new-2.result (λ s. s ≡ no_spaces n))
    (ap length c.in_ok-ram.ensures ∙ length-replicate c.args.frames (replicate 4096 0)) c.new-2.ensures
