use Rattle.imagecheck.proofs.Common.{◌≡◌, entries_to, name_numbers}
use Rattle.imagecheck.proofs.names.read_names.Given as goal

abbrev pub invariant-loop-k : goal.invariant-loop-k
invariant-loop-k g l = l.names.items ≡ name_numbers (entries_to l.bytes l.k)
