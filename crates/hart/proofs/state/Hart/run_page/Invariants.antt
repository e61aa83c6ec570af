use Rattle.std.proofs.Common.{◌+◌, ◌<◌, ◌≤◌}
use Rattle.hart.proofs.Common.{AreChecked, AreFree, IsLive, pc_at, StayLive}
use Rattle.hart.proofs.Running.{GoesLeft}
use Rattle.hart.proofs.state.Hart.run_page.Given as goal

abbrev pub invariant-jump : goal.invariant-jump
invariant-jump g l = record {
  goes : GoesLeft (g.T.Translate.held l.fn.trans) (g.T.Translate.held l.trans) (g.S.Stops.addresses l.stops) l.fn.self
      l.self (pc_at l.base l.k) l.fn.ram l.ram l.count l.left l.f.0;
  below : l.k < 1024;
  counted : l.left ≤ l.count;
  free : AreFree (g.S.Stops.addresses l.stops) l.base l.free;
  since : l.free.here.from ≤ l.k + 1;
  before : l.k < l.free.here.to;
  checked : AreChecked l.page.words l.ram l.f.0 l.page.parts;
  live : IsLive l.live.frames l.f.0;
  others : StayLive l.f.0 l.fn.live.frames l.live.frames l.fn.ram l.ram;
}

abbrev pub decreases-jump : goal.decreases-jump
decreases-jump g l = l.left
