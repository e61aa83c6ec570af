use Rattle.events.proofs.Keeping.{more-ticks}
use Rattle.events.proofs.transcript.TranscriptRecord.ticks.Goals as goal

pub returns-in-Ticks-clause-records : goal.returns-in-Ticks-clause-records
returns-in-Ticks-clause-records c =
    rw (← c.self.view_is) (more-ticks c.self.inside.is_lost c.self.inside.rows.items _ c.in-Ticks.ticks c.args.count
    c.in-Ticks.is)
