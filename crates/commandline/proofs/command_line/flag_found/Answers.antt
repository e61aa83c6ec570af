use Rattle.std.proofs.Common.{◌∙◌, codes}
use Rattle.clap.specs.Matches.{found_of}
use Rattle.clap.proofs.WalkLemmas.{first_value-rows}
use Rattle.commandline.proofs.CommandLineLemmas.{flag-given, flag-missing}
use Rattle.commandline.proofs.command_line.flag_found.Goals as goal

pub returns-in-Some : goal.returns-in-Some
returns-in-Some c =
    flag-given (codes "true") c.in-Some.word.now _ c.eq.result
    (c.in-Some.ensures ∙ first_value-rows (found_of c.args.found.now) c.args.name.now) c.eq.ensures

pub returns-in-None : goal.returns-in-None
returns-in-None c = flag-missing (codes "true") _
    (c.in-None.ensures ∙ first_value-rows (found_of c.args.found.now) c.args.name.now)
