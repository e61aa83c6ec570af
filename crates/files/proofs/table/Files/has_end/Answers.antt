use Rattle.files.proofs.Common.{refl, end_of}
use Rattle.files.proofs.PipesLemmas.{has_end-shown}
use Rattle.files.proofs.table.Files.has_end.Goals as goal

pub returns : goal.returns
returns c =
    rw (
      ← c.self.view_is,
      has_end-shown c.self.inside.slots.items c.args.pipe (end_of c.args.end),
      c.any_end.ensures,
      c.as_slice.ensures.value,
    ) refl
