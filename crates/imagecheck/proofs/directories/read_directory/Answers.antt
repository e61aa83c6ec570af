use Rattle.imagecheck.proofs.Common.{◌∙◌, on_ok_weaker}
use Rattle.imagecheck.proofs.Parents.{least-in}
use Rattle.imagecheck.proofs.directories.read_directory.Goals as goal

pub read_names-requires : goal.read_names-requires
read_names-requires g c =
    least-in c.requires.geometry c.requires.blocks _ c.requires.low c.requires.high c.requires.directory _
    (c.deref.ensures.value ∙ c.in_ok-read_contents.ensures)

pub returns-clause-bytes : goal.returns-clause-bytes
returns-clause-bytes g c = on_ok_weaker _ (λ _. c.in_ok-read_contents.ensures) c.read_names.ensures

pub returns-clause-names : goal.returns-clause-names
returns-clause-names g c = rw (c.deref.ensures.value, c.in_ok-read_contents.ensures) at c.read_names.ensures
