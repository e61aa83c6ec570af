use Rattle.host.proofs.Marked.{all-marked}
use Rattle.host.proofs.host.Host.read_marked.Goals as goal

pub returns-clause-bytes : goal.returns-clause-bytes
returns-clause-bytes g c = all-marked (λ v. v.items) _ _ _ c.read.result c.read.ensures.bytes
