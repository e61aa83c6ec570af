use Rattle.vm.proofs.Common.{sym, mapped_as, mapping_of, pages_of}
use Rattle.vm.proofs.ReachLemmas.{no-page-allows, page-allows}
use Rattle.vm.proofs.PageLemmas.{mapped-page, unmapped-page}
use Rattle.vm.proofs.Space.allows.Goals as goal

pub returns-in-Some : goal.returns-in-Some
returns-in-Some c =
    let m = c.args.ram.now in
    let mapping = mapping_of m c.args.self.now in
    page-allows c.args.access (pages_of m c.args.self.now) c.args.page _ _
    (mapped-page m mapping c.args.page (mapped_as c.in-Some.field-0-0.0 c.in-Some.marks) c.in-Some.ensures.found)
    (sym c.permits.ensures)

pub returns-in-None : goal.returns-in-None
returns-in-None c = no-page-allows c.args.access (pages_of c.args.ram.now c.args.self.now) c.args.page
    (unmapped-page c.args.ram.now (mapping_of c.args.ram.now c.args.self.now) c.args.page c.in-None.ensures.found)
