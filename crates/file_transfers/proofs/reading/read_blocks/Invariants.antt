use Rattle.std.proofs.Common.{◌-◌}
use Rattle.file_transfers.proofs.Pieces.{HasRead}
use Rattle.file_transfers.proofs.reading.read_blocks.Given as goal

-- the bytes so far are read
abbrev pub invariant-loop-done : goal.invariant-loop-done
invariant-loop-done g l = HasRead l.fn.tree l.tree l.fn.spaces l.spaces l.at l.number l.offset l.address l.count l.done

abbrev pub decreases-loop-done : goal.decreases-loop-done
decreases-loop-done g l = l.count - l.done
