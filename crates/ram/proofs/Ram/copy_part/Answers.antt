use Rattle.std.proofs.Common.{◌≡◌, ◌∙◌, ap, length, drop}
use Rattle.std.specs.Prelude.{map}
use Rattle.std.proofs.lemmas.List.{take_at}
use Rattle.ram.specs.Memory.{sized}
use Rattle.ram.proofs.MemoryLemmas.{copied-view, copied-length}
use Rattle.ram.proofs.Ram.copy_part.Goals as goal

pub returns : goal.returns
returns c =
    let n = c.copy_between.new.frames in
    let size : length n ≡ c.self.inside.frames.len =
    copied-length c.deref_mut.result.now n c.args.to.0 _ c.copy_between.ensures.value
    ∙ c.deref_mut.ensures.len in
    ap (map sized) (take_at n (drop (length n) c.self.inside.frames.items) c.self.inside.frames.len size)
    ∙ copied-view c.deref_mut.result.now (ap (map sized) c.deref_mut.ensures.value ∙ c.self.view_is) n c.args.from.0
    c.args.i c.args.to.0 c.args.j c.args.len c.requires.from c.requires.to c.requires.i c.requires.j
    c.copy_between.ensures.value c.copy_between.ensures.from c.copy_between.ensures.to
