use Rattle.calls.proofs.Common.{here-of}
use Rattle.calls.proofs.Processes.{sbrk-acts}
use Rattle.calls.proofs.process_calls.shrink.Goals as goal

pub returns : goal.returns
returns g c = sbrk-acts (here-of c.requires.runs) c.requires.asked c.shrink.ensures c.is_sound.ensures.sound
    c.size-old.ensures
