use Rattle.events.proofs.RowsRead.{are-read}
use Rattle.events.proofs.laws.transcripts_are_read.Goals as goal

pub returns : goal.returns
returns c = are-read
