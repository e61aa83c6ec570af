use Rattle.imagecheck.proofs.Common.{◌≡◌, ◌+◌, length, ap, ◌∙◌, arith, length-append, inodes_in, named_before}
use Rattle.imagecheck.proofs.Common.{named_before-all, named_before-more, inodes-least, inodes-most}
use Rattle.imagerules.specs.Marks.{blocks_of}
use Rattle.imagecheck.proofs.summary.blocks_in_use.Goals as goal

pub overflow_add-total : goal.overflow_add-total
overflow_add-total c = let most =
    inodes-most c.requires.geometry
    in omega (arith, c.loop-n.invariant.most, c.block_total-total.ensures.most, c.loop-n-test.true)

pub loop-n-preserved : goal.loop-n-preserved
loop-n-preserved c =
    let image = c.args.image.now in
    let n = c.loop-n.n in
    let more : length (named_before image (n + 1)) ≡ length (named_before image n) + length (blocks_of image n) =
    ap length (named_before-more image n (omega arith)) ∙ length-append (named_before image n) (blocks_of image n) in
    record {
      total = omega (arith, more, c.loop-n.invariant.total, c.block_total-total.ensures.total);
      most = omega (arith, c.loop-n.invariant.most, c.block_total-total.ensures.most);
    }

pub returns : goal.returns
returns c =
    let end : c.loop-n.n ≡ inodes_in c.args.image.now =
    omega (
      arith,
      c.requires.geometry.inodes,
      c.loop-n.auto.n-end (omega (arith, inodes-least c.requires.geometry)),
      c.loop-n-test.false,
    ) in
    c.loop-n.invariant.total ∙ ap length (ap (named_before c.args.image.now) end ∙ named_before-all c.args.image.now)
