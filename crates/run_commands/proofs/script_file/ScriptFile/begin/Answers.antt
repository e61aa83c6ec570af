use Rattle.run_commands.proofs.script_file.ScriptFile.begin.Goals as goal

pub returns-else-len-gt-MOST_WAITING : goal.returns-else-len-gt-MOST_WAITING
returns-else-len-gt-MOST_WAITING g c = c.end_row.ensures.takes (g.H.Host.files c.args.host.now)
