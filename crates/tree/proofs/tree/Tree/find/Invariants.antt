use Rattle.tree.proofs.Common.{◌≡◌, length, IsSome, find, follow, parts, slot}
use Rattle.tree.proofs.Following.{IsNow}
use Rattle.tree.proofs.tree.Tree.find.Given as goal

abbrev pub invariant-name : goal.invariant-name
invariant-name g l = record {
  now : IsNow l.fn.self l.self l.fn.self.files;
  used : IsSome (slot l.fn.self.files l.number);
  rest : follow l.fn.self.files l.number (parts l.rest) ≡ find l.fn.self.files l.directory l.path;
}

abbrev pub decreases-name : goal.decreases-name
decreases-name g l = length l.rest
