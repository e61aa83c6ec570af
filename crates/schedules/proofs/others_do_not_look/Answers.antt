use Rattle.schedules.proofs.others_do_not_look.Goals as goal
use Rattle.schedules.proofs.Holding.{nobody-looks, others-do-not-look}

pub returns-clause-event : goal.returns-clause-event
returns-clause-event c = others-do-not-look

pub returns-clause-run : goal.returns-clause-run
returns-clause-run c = nobody-looks
