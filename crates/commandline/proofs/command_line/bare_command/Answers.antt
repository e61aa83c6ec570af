use Rattle.std.proofs.Common.{ap, true}
use Rattle.clap.specs.Simple.{App}
use Rattle.commandline.proofs.command_line.bare_command.Goals as goal

abbrev demanding : App → App
demanding a = record a {
  top = record a.top
      { subcommand_required = true; arg_required_else_help = true; has_version = true };
}

pub returns : goal.returns
returns c = rw (
  c.arg_required_else_help.ensures,
  c.subcommand_required.ensures,
  c.after_help.ensures,
  c.version.ensures,
  c.about.ensures,
) (ap demanding c.new.ensures.app)
