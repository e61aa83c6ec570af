use Rattle.std.proofs.Common.{arith, refl}
use Rattle.run_commands.proofs.Recorded.{more-ticks}
use Rattle.run_commands.proofs.script_file.ScriptFile.ticks.Goals as goal

pub returns-in-Ticks : goal.returns-in-Ticks
returns-in-Ticks g c =
    more-ticks (g.H.Host.files c.args.host.now) c.args.self.now _ c.in-Ticks.ticks c.args.count c.in-Ticks.is
    (omega (arith, c.saturating_sub.ensures, c.if-count-saturating_sub.true)) refl
