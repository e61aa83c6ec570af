use Rattle.imagecheck.proofs.Common.{◌≡◌, ◌++◌, entries_to, namings_of}
use Rattle.imagecheck.proofs.namings.add_entries.Given as goal

abbrev pub invariant-loop-k : goal.invariant-loop-k
invariant-loop-k g l = l.namings.items ≡ l.initial.namings.items ++ namings_of l.directory (entries_to l.bytes l.k)
