use Rattle.vm.proofs.SharesLemmas.{free-left}
use Rattle.vm.proofs.shares.free_frames_are_the_rest.Goals as goal

pub returns : goal.returns
returns c = free-left
