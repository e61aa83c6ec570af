use Rattle.files.proofs.PipesLemmas.{table-shown}
use Rattle.files.proofs.table.Files.free_places.Goals as goal

pub returns-clause-sound : goal.returns-clause-sound
returns-clause-sound c = rw (← c.self.view_is) (table-shown _ c.self.invariant.all c.self.invariant.named)
