use Rattle.std.proofs.Common.{ap, sym, ◌++◌, ◌∙◌}
use Rattle.explore_command.specs.Keys.{keys_in}
use Rattle.explore_command.proofs.Typed.{typed-next}
use Rattle.events.specs.Scripts.{command_events}
use Rattle.explore_command.proofs.keys.keys_of.Goals as goal

pub loop-command-preserved : goal.loop-command-preserved
loop-command-preserved c =
    c.in_ok-push_command.ensures
    ∙ ap (λ ks. ks ++ keys_in (command_events c.command-item.result)) c.loop-command.invariant
    ∙ sym (typed-next c.args.script.now c.loop-command.command-index c.command-item.result c.loop-command-test.true
    c.command-item.is)
