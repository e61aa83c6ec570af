use Rattle.layout.proofs.ReadsBack.{inode_of-inode_bytes}
use Rattle.layout.proofs.DiskInode.to_bytes.Goals as goal

pub returns-clause-reads_back : goal.returns-clause-reads_back
returns-clause-reads_back c = λ fits rest. inode_of-inode_bytes c.args.self.now rest fits
