use Rattle.std.proofs.Common.{arith, get_or, leb, ltb, refl, rules, ◌-◌}
use Rattle.std.proofs.lemmas.List.Sorted.{IsPartitionPoint-from_clause, IsPartitionedBy-leb, IsPartitionedBy-ltb}
use Rattle.lines.specs.declared.rows.Sequence.{Sequence}
use Rattle.lines.proofs.Covering.{first-index, nearest-at, nearest-none}
use Rattle.lines.proofs.ordered.nearest.Goals as goal

pub returns-then-after-eq0 : goal.returns-then-after-eq0
returns-then-after-eq0 c =
    let parted = IsPartitionedBy-leb (λ (s : Sequence). s.start) _ c.args.address c.requires in
    let point = IsPartitionPoint-from_clause (λ (s : Sequence). leb s.start c.args.address) _ _
    c.partition_point-after.ensures.partitioned parted (λ a r q k. search rules) in
    nearest-none _ c.args.address _ point c.if-after-eq0.true

pub bounds-sequences-first : goal.bounds-sequences-first
bounds-sequences-first c =
    let none : Sequence = record { start = 0; first = 0; after = 0; unit = 0 } in
    let last = (get_or c.args.sequences.now (c.partition_point-after.result - 1) none).start in
    let parted = IsPartitionedBy-leb (λ (s : Sequence). s.start) _ c.args.address c.requires in
    let point = IsPartitionPoint-from_clause (λ (s : Sequence). leb s.start c.args.address) _ _
    c.partition_point-after.ensures.partitioned parted (λ a r q k. search rules) in
    let parted2 = IsPartitionedBy-ltb (λ (s : Sequence). s.start) _ last c.requires in
    let point2 = IsPartitionPoint-from_clause (λ (s : Sequence). ltb s.start last) _ _
    c.partition_point-first.ensures.partitioned parted2 (λ a r q k. search rules) in
    first-index _ c.args.address _ _ last c.requires point point2 (omega arith)
    c.partition_point-after.ensures.bound none refl

pub returns : goal.returns
returns c =
    let none : Sequence = record { start = 0; first = 0; after = 0; unit = 0 } in
    let last = (get_or c.args.sequences.now (c.partition_point-after.result - 1) none).start in
    let parted = IsPartitionedBy-leb (λ (s : Sequence). s.start) _ c.args.address c.requires in
    let point = IsPartitionPoint-from_clause (λ (s : Sequence). leb s.start c.args.address) _ _
    c.partition_point-after.ensures.partitioned parted (λ a r q k. search rules) in
    let parted2 = IsPartitionedBy-ltb (λ (s : Sequence). s.start) _ last c.requires in
    let point2 = IsPartitionPoint-from_clause (λ (s : Sequence). ltb s.start last) _ _
    c.partition_point-first.ensures.partitioned parted2 (λ a r q k. search rules) in
    nearest-at _ c.args.address _ _ last c.requires point point2 (omega arith)
    c.partition_point-after.ensures.bound none refl _
