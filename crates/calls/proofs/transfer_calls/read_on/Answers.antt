use Rattle.files.specs.declared.file.End.TheVariants.{Read}
use Rattle.calls.proofs.Transfers.{target-some}
use Rattle.calls.proofs.transfer_calls.read_on.Goals as goal

pub unwrap-requires : goal.unwrap-requires
unwrap-requires g c =
    target-some Read c.requires.runs c.requires.can c.requires.number c.low.ensures _ c.open_target.ensures
