use Rattle.files.specs.declared.file.End.TheVariants.{Write}
use Rattle.calls.proofs.Transfers.{goes-transfers, target-some}
use Rattle.calls.proofs.transfer_calls.write_on.Goals as goal

pub unwrap-requires : goal.unwrap-requires
unwrap-requires g c =
    target-some Write c.requires.runs c.requires.can c.requires.number c.low.ensures _ c.open_target.ensures

pub write_pipe-requires : goal.write_pipe-requires
write_pipe-requires g c = let x =
    goes-transfers Write c.requires.runs c.requires.can c.requires.number c.low.ensures _ c.open_target.ensures
    c.unwrap.ensures in (_, rw c.in-Pipe.is at x)
