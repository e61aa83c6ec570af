use Rattle.digests.specs.Digest.{digest_but_files}
use Rattle.digests.proofs.whole.digest_but_files.Goals as goal

pub returns : goal.returns
unfolding digest_but_files
returns g c = rw (c.mix_opens-digest.ensures, c.digest_by.ensures) at c.mix_pipes.ensures
