use Rattle.imagecheck.proofs.Common.{◌≡◌, length, take, CountsNames}
use Rattle.imagecheck.proofs.tables.count_names.Given as goal

abbrev pub invariant-loop-naming : goal.invariant-loop-naming
invariant-loop-naming l = record {
  long : length l.counts ≡ length l.initial.counts;
  counted : CountsNames (take l.naming-index l.namings) l.counts;
}
