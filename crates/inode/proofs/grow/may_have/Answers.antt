use Rattle.inode.proofs.Common.{arith, refl, goes-stays, read-done, step-last, free_blocks}
use Rattle.inode.proofs.Filling.{may-have}
use Rattle.inode.proofs.grow.may_have.Goals as goal

pub returns-then-more-eq0 : goal.returns-then-more-eq0
returns-then-more-eq0 g c = read-done goes-stays refl (λ some. absurd (omega (arith, some, c.if-more-eq0.true)))

pub has_blocks-requires : goal.has_blocks-requires
has_blocks-requires g c = c.requires.parts

pub returns : goal.returns
returns g c = step-last goes-stays
    (λ told was. record {
      told = may-have (free_blocks c.args.geometry c.args.disk.now.blocks) c.args.more told
          was.told;
      same = was.same;
    }) c.has_blocks.ensures
