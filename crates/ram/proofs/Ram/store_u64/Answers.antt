use Rattle.ram.specs.Memory.{word_bytes}
use Rattle.ram.proofs.MemoryLemmas.{put-view}
use Rattle.ram.proofs.Ram.store_u64.Goals as goal

pub returns : goal.returns
unfolding word_bytes
returns c =
    put-view c.self.inside.frames.items c.args.self.now c.args.f.0 c.args.at c.index.result.now
    c.index_mut-frame.result.now c.write_u64.new.buf (word_bytes 8 c.args.x)
    c.self.view_is c.requires.frame c.index.ensures c.index_mut-frame.ensures.value c.whole.ensures c.requires.place
    c.write_u64.ensures
