use Rattle.std.proofs.Common.{◌≡◌, ◌∙◌, ap, length, drop}
use Rattle.std.specs.Prelude.{map}
use Rattle.std.proofs.lemmas.List.{take_at}
use Rattle.ram.specs.Memory.{sized}
use Rattle.ram.proofs.MemoryLemmas.{copied-whole, copied-length}
use Rattle.ram.proofs.Ram.copy.Goals as goal

pub returns-then-from-to : goal.returns-then-from-to
returns-then-from-to c =
    let n = c.copy_frame.new.frames in
    let size : length n ≡ c.self.inside.frames.len =
    copied-length c.deref_mut.result.now n c.args.to.0 _ c.copy_frame.ensures.value ∙ c.deref_mut.ensures.len in
    ap (map sized) (take_at n (drop (length n) c.self.inside.frames.items) c.self.inside.frames.len size)
    ∙ copied-whole c.deref_mut.result.now (ap (map sized) c.deref_mut.ensures.value ∙ c.self.view_is) n c.args.from.0
    c.args.to.0 c.requires.from c.copy_frame.ensures.value c.copy_frame.ensures.from
