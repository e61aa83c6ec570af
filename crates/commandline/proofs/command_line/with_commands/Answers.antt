use Rattle.std.proofs.Common.{◌∙◌, [], Bor, List, ap, fold, ℕ}
use Rattle.std.proofs.lemmas.List.{take_all}
use Rattle.commandline.specs.Declarations.{declared_top, with_declared}
use Rattle.commandline.proofs.CommandLineLemmas.{commands-more}
use Rattle.commandline.proofs.command_line.with_commands.Goals as goal

pub loop-row-preserved : goal.loop-row-preserved
loop-row-preserved c =
    let no : Bor (List ℕ) = record { ref_ptr = (0, 0); now = [] } in
    commands-more declared_top c.args.rows.now c.loop-row.row-index
    (record { name = no; about = no; example = no; words = record { ref_ptr = (0, 0); now = [] } })
    c.loop-row.command _ _ c.loop-row-test.true c.loop-row.invariant c.in-Ok.ensures
    c.in-Ok-subcommand.ensures

pub returns : goal.returns
returns c = c.loop-row.invariant
    ∙ ap (fold with_declared declared_top) (take_all c.loop-row.row-index c.args.rows.now c.loop-row-test.false)
