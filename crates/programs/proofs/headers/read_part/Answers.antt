use Rattle.programs.proofs.Reading.{whole-read}
use Rattle.programs.proofs.headers.read_part.Goals as goal

pub returns : goal.returns
returns g c = whole-read _ c.requires.file c.requires.within c.in_ok-_all.ensures
