use Rattle.vm.proofs.Common.{◌+◌, sym, arith, mapped_as, mapping_of, pages_of}
use Rattle.vm.proofs.ReachLemmas.{run-more, run-stop, run-end}
use Rattle.vm.proofs.PageLemmas.{mapped-page, unmapped-page}
use Rattle.vm.proofs.Space.run.Goals as goal

pub returns-in_default : goal.returns-in_default
returns-in_default c =
    let mem = pages_of c.args.ram.now c.args.self.now in
    let page = mapped-page c.args.ram.now (mapping_of c.args.ram.now c.args.self.now) (c.args.first + c.loop-i.i)
    (mapped_as c.in-Some.field-0-0.0 c.in-Some.marks) c.in-Some.ensures.found in
    omega (
      arith,
      run-stop c.args.access mem c.args.first c.loop-i.i _ c.loop-i.invariant page
          (sym c.if-permits.ensures),
    )

pub returns-in_default-2 : goal.returns-in_default-2
returns-in_default-2 c =
    let mem = pages_of c.args.ram.now c.args.self.now in
    omega (
      arith,
      run-end c.args.access mem c.args.first c.loop-i.i c.loop-i.invariant
          (unmapped-page c.args.ram.now (mapping_of c.args.ram.now c.args.self.now) (c.args.first + c.loop-i.i)
          (rw c.in_default.is at c.find_page.ensures.found)),
    )

pub loop-i-preserved : goal.loop-i-preserved
loop-i-preserved c =
    let mem = pages_of c.args.ram.now c.args.self.now in
    let page = mapped-page c.args.ram.now (mapping_of c.args.ram.now c.args.self.now) (c.args.first + c.loop-i.i)
    (mapped_as c.in-Some.field-0-0.0 c.in-Some.marks) c.in-Some.ensures.found in
    omega (
      arith,
      run-more c.args.access mem c.args.first c.loop-i.i _ c.loop-i.invariant page
          (sym c.if-permits.ensures),
    )
