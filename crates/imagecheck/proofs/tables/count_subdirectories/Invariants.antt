use Rattle.imagecheck.proofs.Common.{◌≡◌, length, take, CountsSubdirectories}
use Rattle.imagecheck.proofs.tables.count_subdirectories.Given as goal

abbrev pub invariant-loop-naming : goal.invariant-loop-naming
invariant-loop-naming l = record {
  long : length l.counts ≡ length l.initial.counts;
  counted : CountsSubdirectories l.image (take l.naming-index l.namings) l.counts;
}
