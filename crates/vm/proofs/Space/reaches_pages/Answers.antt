use Rattle.vm.proofs.Common.{arith}
use Rattle.vm.proofs.ReachLemmas.{test-reach}
use Rattle.vm.proofs.PageLemmas.{pages-sized}
use Rattle.vm.proofs.Space.reaches_pages.Goals as goal

pub returns : goal.returns
returns c =
    test-reach c.args.access _ c.args.address c.args.len _ _
    (pages-sized _ _ _ _ c.frames_are_whole.ensures.memory c.requires.mapped) (omega arith) (omega arith)
    c.run-run.ensures
