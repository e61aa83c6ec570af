use Rattle.ram.proofs.MemoryLemmas.{IsMemory-view}
use Rattle.ram.proofs.Ram.frames_are_whole.Goals as goal

pub returns-clause-memory : goal.returns-clause-memory
returns-clause-memory c = IsMemory-view c.self.inside.frames.items c.self.view_is
