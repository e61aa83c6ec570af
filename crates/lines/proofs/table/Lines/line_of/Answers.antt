use Rattle.std.proofs.Common.{arith}
use Rattle.lines.proofs.Found.{row-found, row-zero}
use Rattle.lines.proofs.table.Lines.line_of.Goals as goal

pub returns-then-row-eq0 : goal.returns-then-row-eq0
returns-then-row-eq0 c = row-zero c.args.self.now c.args.unit c.in_ok-row.row c.args.row (cc) c.if-row-eq0.true

pub returns : goal.returns
returns c = row-found c.args.self.now c.args.unit c.in_ok-row.row c.args.row _ (cc) (omega arith) c.name.ensures
