use Rattle.calls.proofs.Receives.{reads-ended, reads-taken, reads-waiting}
use Rattle.calls.proofs.Transfers.{transfer-stands}
use Rattle.calls.proofs.transfer_calls.read_pipe.Goals as goal

pub has_bytes-requires : goal.has_bytes-requires
has_bytes-requires g c = transfer-stands c.requires.1

pub returns-then-has_bytes : goal.returns-then-has_bytes
returns-then-has_bytes g c =
    reads-taken c.requires.1 c.has_bytes.ensures c.if-has_bytes.true c.low-count.ensures c.read_pipe-taken.ensures.drew
    c.is_sound.ensures.sound c.read_pipe-taken.ensures.count

pub returns-then-has_end : goal.returns-then-has_end
returns-then-has_end g c =
    reads-waiting c.requires.1 c.has_bytes.ensures c.if-has_bytes.false c.has_end.ensures c.if-has_end.true

pub returns-else-has_end : goal.returns-else-has_end
returns-else-has_end g c =
    reads-ended c.requires.1 c.has_bytes.ensures c.if-has_bytes.false c.has_end.ensures c.if-has_end.false
