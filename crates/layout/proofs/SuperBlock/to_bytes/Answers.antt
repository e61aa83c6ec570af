use Rattle.layout.proofs.ReadsBack.{super_of-super_bytes}
use Rattle.layout.proofs.SuperBlock.to_bytes.Goals as goal

pub returns-clause-reads_back : goal.returns-clause-reads_back
returns-clause-reads_back c = λ fits rest. super_of-super_bytes c.args.self.now rest fits
