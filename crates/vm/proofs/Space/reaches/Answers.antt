use Rattle.vm.proofs.Common.{arith, ◌∙◌}
use Rattle.vm.proofs.ReachLemmas.{test-long, test-page}
use Rattle.vm.proofs.PageLemmas.{pages-sized, length-pages}
use Rattle.vm.proofs.Space.reaches.Goals as goal

pub returns-then-len-gt-MAX_SIZE : goal.returns-then-len-gt-MAX_SIZE
returns-then-len-gt-MAX_SIZE c =
    test-long c.args.access _ c.args.address c.args.len
    (pages-sized _ _ _ _ c.frames_are_whole.ensures.memory c.requires)
    (omega (arith, length-pages, c.requires.small))

pub returns-then-end-le4096 : goal.returns-then-end-le4096
returns-then-end-le4096 c =
    c.allows.ensures ∙ test-page c.args.access _ c.args.address c.args.len
    (pages-sized _ _ _ _ c.frames_are_whole.ensures.memory c.requires) (omega arith) (omega arith)
