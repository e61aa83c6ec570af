use Rattle.std.proofs.Common.{ap, sym}
use Rattle.walks.specs.Walks.{walk_told}
use Rattle.walks.proofs.Reading.{read-none, read-one, read-three, read-two}
use Rattle.walks.proofs.entries.Goals as goal

pub returns-in_default : goal.returns-in_default
returns-in_default c = ap walk_told (sym (read-none _ _ _ c.in_default.ensures.table))

pub returns-in_default-table : goal.returns-in_default-table
returns-in_default-table c =
    ap walk_told (sym (read-one _ _ _ c.in-Some.ensures.table c.entry.ensures c.in_default-table.ensures.table))

pub returns-in_default-table-2 : goal.returns-in_default-table-2
returns-in_default-table-2 c =
    ap walk_told (sym (read-two _ _ _ c.in-Some.ensures.table c.entry.ensures c.in-Some-table.ensures.table
    c.entry-2.ensures c.in_default-table-2.ensures.table))

pub returns : goal.returns
returns c =
    ap walk_told (sym (read-three _ _ _ c.in-Some.ensures.table c.entry.ensures c.in-Some-table.ensures.table
    c.entry-2.ensures c.in-Some-table-2.ensures.table c.entry-3.ensures))
