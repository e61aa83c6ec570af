use Rattle.imagemake.proofs.Common.{◌≡◌, ◌-◌, ◌≤◌, drop, length, is_some, list_all, pieces, is_name, names_in}
use Rattle.imagemake.proofs.path.is_path.Given as goal

abbrev pub invariant-name : goal.invariant-name
invariant-name l = record {
  within : l.at ≤ length l.path;
  rest : list_all is_name (pieces (drop l.at l.path)) ≡ is_some (names_in l.path);
}

abbrev pub decreases-name : goal.decreases-name
decreases-name l = length l.path - l.at
