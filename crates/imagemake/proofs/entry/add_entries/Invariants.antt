use Rattle.imagemake.proofs.Common.{◌≤◌, drop, length, IsGoing, meaning}
use Rattle.imagemake.specs.Made.{HasRoom}
use Rattle.imagemake.proofs.entry.add_entries.Given as goal

abbrev pub invariant-loop-entry : goal.invariant-loop-entry
invariant-loop-entry g l = record {
  going : IsGoing l.fn.tree l.tree l.made.items (meaning l.entries) (meaning (drop l.entry-index l.entries));
  room : HasRoom (length l.tree.files) l.made;
  failures : l.fn.tree.failures ≤ l.tree.failures;
}
