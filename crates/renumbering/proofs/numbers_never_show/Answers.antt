use Rattle.renumbering.proofs.numbers_never_show.Goals as goal
use Rattle.renumbering.proofs.Laws.{event-renumbered, run-renumbered}

pub returns-clause-event : goal.returns-clause-event
returns-clause-event c = event-renumbered

pub returns-clause-run : goal.returns-clause-run
returns-clause-run c = run-renumbered
