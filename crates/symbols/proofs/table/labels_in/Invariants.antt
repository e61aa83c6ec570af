use Rattle.std.proofs.Common.{◌≡◌, ◌++◌, ◌-◌}
use Rattle.std.specs.Prelude.{flat_map}
use Rattle.sections.specs.Headers.{pieces}
use Rattle.symbols.specs.Entries.{entries_of, label_in}
use Rattle.symbols.proofs.table.labels_in.Given as goal

-- the labels so far, and those of the entries that are left
abbrev pub invariant-loop : goal.invariant-loop
invariant-loop l =
    l.labels.items ++ flat_map (label_in l.sections l.names) (pieces 24 (l.count - l.counter) l.rest)
    ≡ flat_map (label_in l.sections l.names) (entries_of l.table)
