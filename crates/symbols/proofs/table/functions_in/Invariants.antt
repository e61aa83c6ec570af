use Rattle.std.proofs.Common.{◌≡◌, ◌++◌, ◌-◌}
use Rattle.std.specs.Prelude.{flat_map}
use Rattle.sections.specs.Headers.{pieces}
use Rattle.symbols.specs.Entries.{entries_of, function_in}
use Rattle.symbols.proofs.table.functions_in.Given as goal

-- the functions so far, and those of the entries that are left
abbrev pub invariant-loop : goal.invariant-loop
invariant-loop l =
    l.functions.items ++ flat_map (function_in l.names) (pieces 24 (l.count - l.counter) l.rest)
    ≡ flat_map (function_in l.names) (entries_of l.table)
