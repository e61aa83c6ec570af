use Rattle.imagecheck.proofs.Common.{◌≡◌, length, take, HasFirsts}
use Rattle.imagecheck.proofs.tables.find_firsts.Given as goal

abbrev pub invariant-loop-naming : goal.invariant-loop-naming
invariant-loop-naming l = record {
  long : length l.parents ≡ length l.initial.parents;
  found : HasFirsts (take l.naming-index l.namings) l.parents;
}
