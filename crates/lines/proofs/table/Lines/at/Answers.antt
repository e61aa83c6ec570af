use Rattle.lines.proofs.Found.{line-found, of-row}
use Rattle.lines.proofs.table.Lines.at.Goals as goal

pub returns : goal.returns
returns c = line-found c.args.self.now c.args.address c.in_ok-sequence.sequence _ c.in_ok-sequence.ensures
    (of-row c.args.self.now _ _ _ _ c.row.ensures c.line_of.ensures)
