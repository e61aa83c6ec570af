use Rattle.layout.proofs.ReadsBack.{entry_of-entry_bytes}
use Rattle.layout.proofs.Entry.to_bytes.Goals as goal

pub returns-clause-reads_back : goal.returns-clause-reads_back
returns-clause-reads_back c = λ fits rest. entry_of-entry_bytes c.args.self.now rest fits
