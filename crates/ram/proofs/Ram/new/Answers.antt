use Rattle.std.proofs.Common.{◌∙◌, ap, map}
use Rattle.ram.specs.Memory.{sized}
use Rattle.ram.proofs.MemoryLemmas.{map-sized-zeros}
use Rattle.ram.proofs.Ram.new.Goals as goal

pub returns-in-Ok : goal.returns-in-Ok
returns-in-Ok c = ap (map sized) c.in-Ok.ensures ∙ map-sized-zeros c.args.n
