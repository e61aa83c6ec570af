use Rattle.std.proofs.Common.{refl, true}
use Rattle.events.specs.declared.row.Row.TheVariants.{Steps}
use Rattle.run_commands.proofs.Recorded.{new-kept}
use Rattle.run_commands.proofs.script_file.ScriptFile.begun.Goals as goal

pub returns-clause-empty : goal.returns-clause-empty
returns-clause-empty c held empty =
    new-kept held c.args.name true c.new.result.bytes.items (Steps 0) (λ _. empty) c.new.ensures.bytes refl
