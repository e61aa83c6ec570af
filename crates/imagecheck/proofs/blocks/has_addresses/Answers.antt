use Rattle.imagecheck.proofs.Common.{◌≢◌, arith, kind_in, FitsAddresses, up_to_more, FitsAddresses-at}
use Rattle.imagecheck.proofs.Common.{HasAddresses-from}
use Rattle.imagecheck.proofs.Judging.{refused, told}
use Rattle.imagecheck.proofs.blocks.has_addresses.Goals as goal

pub returns-then-not-has_own_addresses : goal.returns-then-not-has_own_addresses
returns-then-not-has_own_addresses c = refused c.if-not-has_own_addresses.true c.has_own_addresses.ensures
    (λ h. FitsAddresses-at _ h c.loop-n.n (omega arith) (omega (arith, c.requires.geometry.inodes)))

pub loop-n-preserved : goal.loop-n-preserved
loop-n-preserved c = up_to_more (λ m. kind_in c.args.image.now m ≢ 0 → FitsAddresses c.args.image.now m) c.loop-n.n
    c.loop-n.invariant
    (c.has_own_addresses.ensures.0 c.if-not-has_own_addresses.false)

pub returns : goal.returns
returns c = told (HasAddresses-from _
    (λ n low high. c.loop-n.invariant n low (omega (arith, c.requires.geometry.inodes, c.loop-n-test.false))))
