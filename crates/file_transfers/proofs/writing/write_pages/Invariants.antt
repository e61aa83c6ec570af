use Rattle.file_transfers.proofs.Common.{◌-◌, bytes_given}
use Rattle.file_transfers.proofs.Fits.{HasWritten}
use Rattle.file_transfers.proofs.writing.write_pages.Given as goal

-- the bytes so far are written
abbrev pub invariant-loop-done : goal.invariant-loop-done
invariant-loop-done g l =
    HasWritten l.fn.tree l.tree l.number l.offset (bytes_given l.spaces l.at l.address l.count) l.done

abbrev pub decreases-loop-done : goal.decreases-loop-done
decreases-loop-done g l = l.count - l.done
