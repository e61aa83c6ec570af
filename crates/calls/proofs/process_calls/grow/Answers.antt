use Rattle.calls.proofs.Common.{here-of}
use Rattle.calls.proofs.Processes.{sbrk-acts, sbrk-over}
use Rattle.calls.proofs.process_calls.grow.Goals as goal

pub returns-then-not-grow : goal.returns-then-not-grow
returns-then-not-grow g c =
    sbrk-over (here-of c.requires.runs) c.requires.asked c.if-not-grow.ensures.over c.if-not-grow.ensures.refused

pub returns : goal.returns
returns g c = sbrk-acts (here-of c.requires.runs) c.requires.asked c.if-not-grow.ensures.done c.is_sound.ensures.sound
    c.size-old.ensures
