use Rattle.inode.proofs.Common.{ap, DiskInode, ◌∙◌}
use Rattle.cache.proofs.Using.{read-done}
use Rattle.layout.specs.Inode.{inode_kind}
use Rattle.layout.specs.Kinds.{kind_minor}
use Rattle.inode.proofs.read.minor.Goals as goal

pub returns : goal.returns
returns g c = read-done c.read_inode.ensures.goes c.in_ok-inode.ensures.done.same
    (c.minor.ensures
    ∙ ap kind_minor (c.kind.ensures ∙ ap (λ (i : DiskInode). inode_kind i) c.in_ok-inode.ensures.done.told.is))
