use Rattle.run_commands.proofs.Recorded.{keys-all, keys-more, takes-none}
use Rattle.run_commands.proofs.script_file.ScriptFile.keys.Goals as goal

pub loop-key-init : goal.loop-key-init
loop-key-init g c = takes-none (g.H.Host.files c.args.host.now) c.args.self.now

pub loop-key-preserved : goal.loop-key-preserved
loop-key-preserved g c = keys-more _ _ c.loop-key-test.true c.loop-key.invariant c.key.ensures

pub returns : goal.returns
returns g c = keys-all _ _ c.loop-key-test.false c.loop-key.invariant
