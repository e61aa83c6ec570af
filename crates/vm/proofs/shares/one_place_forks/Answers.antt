use Rattle.vm.proofs.SharesLemmas.{fork-machine}
use Rattle.vm.proofs.shares.one_place_forks.Goals as goal

pub returns : goal.returns
returns c = record { machine = fork-machine }
