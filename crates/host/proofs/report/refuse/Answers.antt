use Rattle.std.proofs.Common.{subst}
use Rattle.host.specs.Reports.{IsRefusalStatus}
use Rattle.host.proofs.report.refuse.Goals as goal

pub returns : goal.returns
returns g c = subst (λ k. IsRefusalStatus k c.refuse_as.result) c.kind.ensures c.refuse_as.ensures
