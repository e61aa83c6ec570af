use Rattle.std.proofs.Common.{refl, sym, ◌∙◌}
use Rattle.run_commands.proofs.Recorded.{on-ok, row-ended}
use Rattle.run_commands.proofs.script_file.ScriptFile.end_row.Goals as goal

pub returns-else-is_err-clause-takes : goal.returns-else-is_err-clause-takes
returns-else-is_err-clause-takes c held =
    row-ended held c.args.self.now _ c.args.row c.requires refl refl refl c.replace-full.ensures.after
    (rw (← c.replace-full.ensures.value)
    (on-ok c.put_unless_empty.result (sym c.is_err.ensures.value ∙ c.if-is_err.false) c.put_unless_empty.ensures))
