use Rattle.std.proofs.Common.{false, refl}
use Rattle.std.proofs.lemmas.Bool.{false≢true}
use Rattle.events.specs.declared.row.Row.TheVariants.{Steps}
use Rattle.run_commands.proofs.Recorded.{new-kept}
use Rattle.run_commands.proofs.script_file.ScriptFile.new.Goals as goal

pub returns-clause-empty : goal.returns-clause-empty
returns-clause-empty c held =
    new-kept held c.args.name false c.new.result.bytes.items (Steps 0) (λ is. absurd (false≢true is))
    c.new.ensures.bytes refl
