use Rattle.files.proofs.Common.{refl, free_slots}
use Rattle.files.proofs.PipesLemmas.{named-free}
use Rattle.files.proofs.table.Files.new.Goals as goal

pub invariant_of-result : goal.invariant_of-result
invariant_of-result c = rw c.from_array_in.ensures.items (record { all = refl; named = named-free 100 })

pub returns : goal.returns
unfolding free_slots
returns c = rw c.from_array_in.ensures.items refl
