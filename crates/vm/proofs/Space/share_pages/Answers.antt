use Rattle.vm.proofs.Common.{◌≡◌, arith, subst, IsSoFar, pages_in}
use Rattle.vm.proofs.Forked.{shared-frames, so-far-more, so-far-start, room-for}
use Rattle.vm.proofs.Space.share_pages.Goals as goal

pub loop-page-init : goal.loop-page-init
loop-page-init c = so-far-start c.requires.part

pub share_page-requires-clause-room : goal.share_page-requires-clause-room
share_page-requires-clause-room c =
    room-for c.loop-page.invariant (omega (arith, c.pages_in-page-end.ensures, c.loop-page-test.true)) c.requires.room

pub loop-page-preserved : goal.loop-page-preserved
loop-page-preserved c =
    so-far-more c.loop-page.invariant c.share_page.ensures
    (omega (arith, c.pages_in-page-end.ensures, c.loop-page-test.true))

all : goal.returns-clause-all
all c =
    let end : c.loop-page.page ≡ pages_in c.args.self.now.size =
    omega (arith, c.pages_in-page-end.ensures, c.loop-page-test.false) in
    subst (λ n. IsSoFar c.args.memory.now.ram c.loop-page.memory.ram c.args.self.now c.args.child.now n
    c.args.memory.now.frames
    c.loop-page.memory.frames) end c.loop-page.invariant

pub returns-clause-all : goal.returns-clause-all
returns-clause-all c = all c

pub returns-clause-shared : goal.returns-clause-shared
returns-clause-shared c = λ p h. (shared-frames c.requires.part (all c) p h).0

pub returns-clause-holders : goal.returns-clause-holders
returns-clause-holders c = λ p h. (shared-frames c.requires.part (all c) p h).1
