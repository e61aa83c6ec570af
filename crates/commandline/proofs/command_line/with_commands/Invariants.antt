use Rattle.std.proofs.Common.{◌≡◌, fold, take}
use Rattle.clap.specs.Simple.{app_of}
use Rattle.commandline.specs.Declarations.{declared_top, with_declared}
use Rattle.commandline.proofs.command_line.with_commands.Given as goal

abbrev pub invariant-loop-row : goal.invariant-loop-row
invariant-loop-row l = app_of l.command ≡ fold with_declared declared_top (take l.row-index l.rows)
