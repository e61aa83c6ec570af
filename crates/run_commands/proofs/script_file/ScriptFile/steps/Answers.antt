use Rattle.std.proofs.Common.{arith, refl}
use Rattle.run_commands.proofs.Recorded.{more-steps}
use Rattle.run_commands.proofs.script_file.ScriptFile.steps.Goals as goal

pub returns-in-Steps : goal.returns-in-Steps
returns-in-Steps g c =
    more-steps (g.H.Host.files c.args.host.now) c.args.self.now _ c.in-Steps.steps c.args.count c.in-Steps.is
    (omega (arith, c.saturating_sub.ensures, c.if-count-saturating_sub.true)) refl
