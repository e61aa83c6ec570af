use Rattle.std.proofs.Common.{arith}
use Rattle.ram.proofs.MemoryLemmas.{frame-read, byte-view}
use Rattle.ram.proofs.Ram.store_u8.Goals as goal

pub returns : goal.returns
returns c =
    let m = c.self.inside.frames.items in
    let v = c.args.self.now in
    let r = c.index_mut-frame.result.now in
    let is = frame-read m c.self.view_is c.args.f.0 c.index.result.now r c.requires.frame c.index.ensures
    c.index_mut-frame.ensures.value c.whole.ensures in
    byte-view m c.self.view_is c.args.f.0 c.args.at c.args.x r is.0 is.1 (omega arith) (omega arith)
