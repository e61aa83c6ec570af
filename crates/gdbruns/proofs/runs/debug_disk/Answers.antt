use Rattle.gdbruns.proofs.Lines.{debugged-after}
use Rattle.gdbruns.proofs.runs.debug_disk.Goals as goal

pub returns-in-Ok-debug : goal.returns-in-Ok-debug
returns-in-Ok-debug g c =
    rw (← c.in-Ok.ensures) (debugged-after _ _ _ _ _ c.in_ok-timeline.ensures c.debug.ensures)
