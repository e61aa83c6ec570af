use Rattle.vm.proofs.Common.{length, sym, arith, pages_of}
use Rattle.vm.proofs.PageLemmas.{length-pages, pages-sized}
use Rattle.vm.proofs.ReachLemmas.{page-there}
use Rattle.vm.proofs.Space.copy_out.Goals as goal

pub fill-requires-clause-inside : goal.fill-requires-clause-inside
fill-requires-clause-inside c = λ i low.
    let there = page-there (pages_of c.args.memory.now.ram c.args.self.now) c.args.address (length c.args.bytes.now) i
    (pages-sized _ _ _ _ c.frames_are_whole.ensures.memory c.requires.dense) (sym c.if-not-can_write.ensures)
    low in
    omega (arith, there, length-pages)

pub can_write-requires : goal.can_write-requires
can_write-requires c = c.requires.dense
