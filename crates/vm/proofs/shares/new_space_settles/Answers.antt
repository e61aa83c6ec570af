use Rattle.vm.proofs.SharesLemmas.{settle-machine}
use Rattle.vm.proofs.shares.new_space_settles.Goals as goal

pub returns : goal.returns
returns c = settle-machine
