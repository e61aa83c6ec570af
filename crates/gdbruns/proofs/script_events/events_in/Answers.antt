use Rattle.std.proofs.Common.{◌++◌, ◌∙◌, ap, sym}
use Rattle.events.proofs.Scripting.{script-next}
use Rattle.events.specs.Scripts.{command_events}
use Rattle.gdbruns.proofs.script_events.events_in.Goals as goal

pub loop-command-preserved : goal.loop-command-preserved
loop-command-preserved c =
    c.in_ok-push_command.ensures ∙ ap (λ es. es ++ command_events c.command-item.result) c.loop-command.invariant
    ∙ sym (script-next c.args.script.now c.loop-command.command-index c.command-item.result c.loop-command-test.true
    c.command-item.is)
