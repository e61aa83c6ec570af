use Rattle.std.proofs.Common.{arith, leb, refl, rules}
use Rattle.std.proofs.lemmas.List.Sorted.{IsPartitionPoint-from_clause, IsPartitionedBy-leb}
use Rattle.symbols.specs.declared.entry.Symbol.{Symbol}
use Rattle.symbols.proofs.Search.{last-below, none-below}
use Rattle.symbols.proofs.nearest.last_below.Goals as goal

pub returns-then-after-eq0 : goal.returns-then-after-eq0
returns-then-after-eq0 c =
    let parted = IsPartitionedBy-leb (λ (s : Symbol). s.address) _ c.args.address c.requires in
    let point = IsPartitionPoint-from_clause (λ (s : Symbol). leb s.address c.args.address) _ _
    c.partition_point-after.ensures.partitioned parted (λ a r q k. search rules) in
    none-below _ c.args.address _ point c.if-after-eq0.true

pub returns : goal.returns
returns c =
    let parted = IsPartitionedBy-leb (λ (s : Symbol). s.address) _ c.args.address c.requires in
    let point = IsPartitionPoint-from_clause (λ (s : Symbol). leb s.address c.args.address) _ _
    c.partition_point-after.ensures.partitioned parted (λ a r q k. search rules) in
    last-below _ c.args.address _ point _ c.requires (omega arith) c.partition_point-after.ensures.bound (search rules)
