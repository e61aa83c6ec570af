use Rattle.layout.proofs.Common.{ap, ◌∙◌, arith, inode_bytes}
use Rattle.layout.proofs.ReadsBack.{inode_bytes-inode_of}
use Rattle.layout.proofs.DiskInode.from_bytes.Goals as goal

pub returns-clause-spells : goal.returns-clause-spells
returns-clause-spells c = ap inode_bytes c.from_front.ensures.inode
    ∙ inode_bytes-inode_of c.args.bytes.now (omega arith) (λ i. omega (arith, c.type_inv.bytes i))
