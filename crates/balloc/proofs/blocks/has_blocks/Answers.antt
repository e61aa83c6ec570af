use Rattle.balloc.proofs.Common.{◌∙◌, arith, subst, sym, le-leb, lt-leb, free_blocks, Finds, IsFirstFree, IsFullFrom}
use Rattle.balloc.proofs.Common.{goes-after, read-done, step-failed}
use Rattle.balloc.proofs.Counting.{free_from-first, free_from-none}
use Rattle.balloc.proofs.blocks.has_blocks.Goals as goal

pub returns-in_err-b : goal.returns-in_err-b
returns-in_err-b g c = step-failed c.search.invariant.goes c.find_free.ensures c.in_err-b.was c.from_residual.ensures.1

pub returns-in_default : goal.returns-in_default
returns-in_default g c =
    let blocks = c.args.disk.now.blocks in
    let i = c.search.invariant in
    let full = subst (λ b. IsFullFrom c.args.geometry b c.search.from) i.same
    (subst (Finds _ _ _) c.in_default.is c.in_ok-b.ensures.done.told) in
    read-done (goes-after i.goes c.find_free.ensures.goes) (c.in_ok-b.ensures.done.same ∙ i.same)
    (sym (lt-leb c.args.wanted (free_blocks c.args.geometry blocks)
    (omega (
      arith,
      i.counted,
      free_from-none c.args.geometry blocks c.search.from i.low i.high full,
      c.search-test.true,
    ))))

pub search-preserved : goal.search-preserved
search-preserved g c =
    let blocks = c.args.disk.now.blocks in
    let i = c.search.invariant in
    let first = subst (λ b. IsFirstFree c.args.geometry b c.search.from c.in-Some.b) i.same
    (subst (Finds _ _ _) c.in-Some.is c.in_ok-b.ensures.done.told) in
    let counted = i.counted in
    record {
      same = c.in_ok-b.ensures.done.same ∙ i.same;
      goes = goes-after i.goes c.find_free.ensures.goes;
      low = omega (arith, first.free.low);
      high = omega (arith, first.free.high);
      some = omega (arith, c.search-test.true);
      counted = omega (arith, free_from-first i.low first);
    }

pub returns : goal.returns
returns g c =
    let i = c.search.invariant in
    let counted = i.counted in
    let all = c.search-test.false in
    read-done i.goes i.same (sym
    (le-leb c.args.wanted (free_blocks c.args.geometry c.args.disk.now.blocks) (omega arith)))
