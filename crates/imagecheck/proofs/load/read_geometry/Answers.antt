use Rattle.imagecheck.proofs.Common.{arith, subst, IfErr, IsFront, IsOfImage, HasLength-not_few}
use Rattle.imagecheck.proofs.load.read_geometry.Goals as goal

pub returns-then-count-lt2-clause-judged : goal.returns-then-count-lt2-clause-judged
returns-then-count-lt2-clause-judged g c =
    HasLength-not_few (g.D.BlockDev.content c.args.device.now) (g.met.D.BlockDev.sizes c.args.device.now)
    (omega (arith, c.blocks-count.ensures, c.if-count-lt2.true))

pub returns : goal.returns
returns g c =
    let blocks = g.D.BlockDev.content c.args.device.now in
    let front : IsFront blocks c.blocks-count.result c.in_ok-block.block =
    record {
      sizes = g.met.D.BlockDev.sizes _;
      many = c.blocks-count.ensures;
      front = c.in_ok-block.ensures.bytes;
    } in
    record {
      judged = c.geometry_in.ensures.judged blocks front;
      memory = λ told. subst (λ r. IfErr r IsOfImage) told c.geometry_in.ensures.own;
      reads = record {
        same = c.read.ensures.same;
        identity = c.read.ensures.identity;
        later = omega arith;
        failed = λ told. absurd (subst (λ r. IfErr r IsOfImage) told c.geometry_in.ensures.own);
      };
    }
