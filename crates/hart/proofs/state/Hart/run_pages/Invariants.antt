use Rattle.hart.proofs.Common.{◌≤◌, ◌-◌, List, None, Mapped, GoesOn, IsBehind, StaysWhole, point_of, ◌≡◌}
use Rattle.std.specs.Prelude.{vec_len}
use Rattle.hart.specs.Known.{AreKnown}
use Rattle.hart.proofs.state.Hart.run_pages.Given as goal

abbrev pub invariant-loop-left : goal.invariant-loop-left
invariant-loop-left g l = record {
  bounded : l.left ≤ l.count;
  many : vec_len l.pages.all ≡ 128;
  known : AreKnown l.live.frames l.pages.sets l.pages.all.items l.ram;
  whole : StaysWhole (g.T.Translate.held l.trans) l.fn.self l.self l.fn.ram l.ram;
  behind : IsBehind (g.S.Stops.addresses l.stops) (l.count - l.left) l.fn.self.pc l.self.pc;
  goes : (mapping : List Mapped)
      → GoesOn (g.T.Translate.held l.fn.trans) (g.T.Translate.held l.trans) l.fn.self.root.0 mapping
      (g.S.Stops.addresses l.stops) (point_of l.fn.self l.fn.ram) (point_of l.self l.ram) (l.count - l.left) None;
}

abbrev pub decreases-loop-left : goal.decreases-loop-left
decreases-loop-left g l = l.left
