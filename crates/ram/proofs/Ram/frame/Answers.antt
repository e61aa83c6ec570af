use Rattle.ram.proofs.MemoryLemmas.{frame_of-read}
use Rattle.ram.proofs.Ram.frame.Goals as goal

pub returns : goal.returns
returns c = frame_of-read c.self.inside.frames.items c.self.view_is c.args.f.0 c.index-frame.result.now c.requires
    c.index-frame.ensures c.whole.ensures
