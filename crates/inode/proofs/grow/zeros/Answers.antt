use Rattle.layout.proofs.SoundLemmas.{zero_at}
use Rattle.inode.proofs.grow.zeros.Goals as goal

pub returns : goal.returns
returns c = λ i. zero_at 1024 i
