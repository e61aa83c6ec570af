use Rattle.spaces.proofs.Spaces.page.Goals as goal
use Rattle.spaces.proofs.Places.{held-is, stands-there}
use Rattle.spaces.proofs.Common.{ap, sym, option_map, told_page, mapped_as, mapping_of, mapped-page, unmapped-page}

pub space_at-space-requires : goal.space_at-space-requires
space_at-space-requires g c = stands-there c.self.inside c.args.at (rw (← c.self.view_is) at c.requires)

pub find_page-requires : goal.find_page-requires
find_page-requires g c =
    (c.self.invariant.spaces.machine.each c.args.at c.space_at-space.result.now c.space_at-space.ensures).dense

pub returns-in_err-frame : goal.returns-in_err-frame
returns-in_err-frame g c =
    rw (← c.self.view_is, held-is c.self.inside _ c.space_at-space.ensures, c.from_residual.ensures)
    (sym (ap (option_map told_page)
    (unmapped-page c.self.inside.memory.ram (mapping_of c.self.inside.memory.ram c.space_at-space.result.now) c.args.n
    c.in_err-frame.ensures.found)))

pub returns : goal.returns
returns g c = rw (← c.self.view_is, held-is c.self.inside _ c.space_at-space.ensures, c.frame.ensures)
    (sym (ap (option_map told_page)
    (mapped-page c.self.inside.memory.ram (mapping_of c.self.inside.memory.ram c.space_at-space.result.now) c.args.n
    (mapped_as c.in_ok-frame.frame.0 c.in_ok-frame.marks) c.in_ok-frame.ensures.found)))
