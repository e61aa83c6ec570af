use Rattle.imagecheck.proofs.Common.{◌≤◌, arith, Decides-like, kind_in, up_to_more, HasPlace-at, inodes-least}
use Rattle.imagecheck.proofs.Judging.{refused}
use Rattle.imagecheck.proofs.kinds.has_kinds.Goals as goal

pub is_known-requires : goal.is_known-requires
is_known-requires c = HasPlace-at c.requires c.loop-n.n c.loop-n-test.true

pub is_directory-requires : goal.is_directory-requires
is_directory-requires c = HasPlace-at c.requires 1 (omega (arith, inodes-least c.requires))

pub returns-then-not-is_known : goal.returns-then-not-is_known
returns-then-not-is_known c =
    refused c.if-not-is_known.true c.is_known.ensures
    (λ h. h.known c.loop-n.n (omega arith) (omega (arith, c.requires.inodes)))

pub loop-n-preserved : goal.loop-n-preserved
loop-n-preserved c = up_to_more (λ m. kind_in c.args.image.now m ≤ 3) c.loop-n.n c.loop-n.invariant
    (c.is_known.ensures.0 c.if-not-is_known.false)

pub returns : goal.returns
returns c = Decides-like _
    (λ root. record {
      known = λ n low high. c.loop-n.invariant n low
          (omega (arith, c.requires.inodes, c.loop-n-test.false));
      root = root;
    }) (λ h. h.root) c.is_directory.ensures
