use Rattle.std.proofs.Common.{refl}
use Rattle.files.proofs.PipesLemmas.{has_pipe-shown}
use Rattle.files.proofs.table.Files.has_pipe.Goals as goal

pub returns : goal.returns
returns c = rw (
  ← c.self.view_is,
  has_pipe-shown c.self.inside.slots.items c.args.pipe,
  c.any_pipe.ensures,
  c.as_slice.ensures.value,
) refl
