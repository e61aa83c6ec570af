use Rattle.files.proofs.PipesLemmas.{shown-refilled}
use Rattle.files.proofs.table.Files.set.Goals as goal

pub returns : goal.returns
returns c = rw (← c.self.view_is) (shown-refilled _ _ c.deref_mut.ensures.value)
