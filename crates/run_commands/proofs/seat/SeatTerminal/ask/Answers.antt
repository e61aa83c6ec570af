use Rattle.run_commands.proofs.Recorded.{written_then}
use Rattle.run_commands.proofs.seat.SeatTerminal.ask.Goals as goal

pub returns-clause-kept : goal.returns-clause-kept
returns-clause-kept g c = (written_then _ _ _ c.end_line.ensures c.answer.ensures).records
