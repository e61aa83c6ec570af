use Rattle.proc.proofs.Common.{drop, map, option_map, take, ◌++◌, ◌≡◌, orphaned}
use Rattle.proc.proofs.table.orphan_all.Given as goal

abbrev pub invariant-loop-place : goal.invariant-loop-place
invariant-loop-place l =
    l.places ≡ map (option_map (orphaned l.pid)) (take l.place-index l.initial.places)
    ++ drop l.place-index l.initial.places
