use Rattle.std.proofs.Common.{None}
use Rattle.files.proofs.PipesLemmas.{within-named}
use Rattle.files.proofs.table.Files.slot.Goals as goal

pub returns-in-Some-clause-within : goal.returns-in-Some-clause-within
returns-in-Some-clause-within c =
    let at = rw c.as_slice.ensures.value at c.in-Some.ensures.lookup in
    within-named _ c.in-Some.slot.now c.self.invariant.all c.self.invariant.named at.3.0 (at.3.1 None)
