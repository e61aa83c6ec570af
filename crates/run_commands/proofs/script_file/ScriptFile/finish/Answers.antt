use Rattle.run_commands.proofs.Recorded.{finished}
use Rattle.run_commands.proofs.script_file.ScriptFile.finish.Goals as goal

pub returns-in-None-clause-script : goal.returns-in-None-clause-script
returns-in-None-clause-script g c sound =
    finished (g.H.Host.files c.args.host.now) _ c.args.self _ sound c.write_all.ensures.takes c.in-None.is
    c.write_all.ensures.all
