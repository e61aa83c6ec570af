use Rattle.events.proofs.Keeping.{more-steps}
use Rattle.events.proofs.transcript.TranscriptRecord.steps.Goals as goal

pub returns-in-Steps-clause-records : goal.returns-in-Steps-clause-records
returns-in-Steps-clause-records c =
    rw (← c.self.view_is) (more-steps c.self.inside.is_lost c.self.inside.rows.items _ c.in-Steps.steps c.args.count
    c.in-Steps.is)
