use Rattle.std.proofs.Common.{refl}
use Rattle.files.proofs.PipesLemmas.{free_slot-shown}
use Rattle.files.proofs.table.Files.open.Goals as goal

pub returns-in-Some-clause-place : goal.returns-in-Some-clause-place
returns-in-Some-clause-place c =
    rw (
      ← c.self.view_is,
      free_slot-shown c.self.inside.slots.items,
      ← c.as_slice.ensures.value,
      ← c.in-Some.ensures.place,
    ) refl

pub returns-in-None-clause-place : goal.returns-in-None-clause-place
returns-in-None-clause-place c =
    rw (
      ← c.self.view_is,
      free_slot-shown c.self.inside.slots.items,
      ← c.as_slice.ensures.value,
      ← c.in-None.ensures.place,
    ) refl
