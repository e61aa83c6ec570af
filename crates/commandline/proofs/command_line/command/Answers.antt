use Rattle.commandline.proofs.command_line.command.Goals as goal

pub returns : goal.returns
returns c = c.with_commands.ensures
