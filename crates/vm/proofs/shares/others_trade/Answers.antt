use Rattle.vm.proofs.SharesLemmas.{rest-machine, rest-untouched}
use Rattle.vm.proofs.shares.others_trade.Goals as goal

pub returns : goal.returns
returns c = record { machine = rest-machine; untouched = rest-untouched }
