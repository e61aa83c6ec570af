use Rattle.std.proofs.Common.{arith, leb, rules, sym}
use Rattle.std.proofs.lemmas.List.Sorted.{IsPartitionPoint-from_clause, IsPartitionedBy-leb}
use Rattle.lines.specs.declared.rows.Row.{Row}
use Rattle.lines.proofs.Covering.{covering-none-above, covering-none-below, covering-row}
use Rattle.lines.proofs.ordered.covering.Goals as goal

pub returns-then-after-eq0 : goal.returns-then-after-eq0
returns-then-after-eq0 c =
    let parted = IsPartitionedBy-leb (λ (r : Row). r.address) _ c.args.address c.requires in
    let point = IsPartitionPoint-from_clause (λ (r : Row). leb r.address c.args.address) _ _
    c.partition_point-after.ensures.partitioned parted (λ a r q k. search rules) in
    sym (covering-none-below _ c.args.address _ point c.if-after-eq0.true)

pub returns-then-after-rows : goal.returns-then-after-rows
returns-then-after-rows c =
    let parted = IsPartitionedBy-leb (λ (r : Row). r.address) _ c.args.address c.requires in
    let point = IsPartitionPoint-from_clause (λ (r : Row). leb r.address c.args.address) _ _
    c.partition_point-after.ensures.partitioned parted (λ a r q k. search rules) in
    sym (covering-none-above _ c.args.address _ point (omega arith))

pub returns : goal.returns
returns c =
    let parted = IsPartitionedBy-leb (λ (r : Row). r.address) _ c.args.address c.requires in
    let point = IsPartitionPoint-from_clause (λ (r : Row). leb r.address c.args.address) _ _
    c.partition_point-after.ensures.partitioned parted (λ a r q k. search rules) in
    sym (covering-row _ c.args.address _ point _ (omega arith) (omega arith) (search rules))
