use Rattle.std.proofs.Common.{◌∙◌, replicate, set, ℕ, List, ap, map}
use Rattle.ram.specs.Memory.{sized}
use Rattle.ram.proofs.MemoryLemmas.{set-view_full, length-zeros}
use Rattle.ram.proofs.Ram.zero.Goals as goal

pub returns : goal.returns
returns c =
    let m = c.self.inside.frames.items in
    ap (λ (w : List ℕ). map sized (set m c.args.f.0 w)) c.clear.ensures
    ∙ set-view_full m c.self.view_is c.args.f.0 (replicate 4096 0) length-zeros
