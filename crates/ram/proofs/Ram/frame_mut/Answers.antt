use Rattle.std.proofs.Common.{refl}
use Rattle.ram.proofs.MemoryLemmas.{frame-read, set-view}
use Rattle.ram.proofs.Ram.frame_mut.Goals as goal

pub returns : goal.returns
returns c =
    let m = c.self.inside.frames.items in
    let v = c.args.self.now in
    let read = frame-read m c.self.view_is c.args.f.0 c.index.result.now c.index_mut.result.now c.requires
    c.index.ensures c.index_mut.ensures.value c.whole.ensures in (
      (refl, λ w. set-view m c.self.view_is c.args.f.0 w),
      record { writes_back = tt; value = read.1 },
    )
