use Rattle.vm.proofs.SharesLemmas.{trade-machine, trade-others, trade-rest}
use Rattle.vm.proofs.shares.one_place_trades.Goals as goal

pub returns : goal.returns
returns c = record { machine = trade-machine; untouched = trade-others; rest = trade-rest }
