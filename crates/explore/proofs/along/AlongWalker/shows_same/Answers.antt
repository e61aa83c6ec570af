use Rattle.std.proofs.Common.{refl}
use Rattle.explore.proofs.Walking.{same-reached}
use Rattle.explore.proofs.along.AlongWalker.shows_same.Goals as goal

pub returns-in-Ok : goal.returns-in-Ok
returns-in-Ok g c = record {
  same = λ yes. record {
    bytes = c.if-not-prints_same.ensures refl;
    status = c.requires;
    files = c.in-Ok.ensures.says yes;
  };
  reached = same-reached _ _ _ _ c.in-Ok.ensures.stays refl;
  start = refl;
  other_start = refl;
}
