use Rattle.kernel.proofs.Common.{arith, kernel_of}
use Rattle.kernel.proofs.Opening.{hold-few}
use Rattle.kernel.proofs.Turning.{runner-of}
use Rattle.kernel.proofs.Working.{folder-there, work-fits, work-held, work-keeps, work-serves}
use Rattle.kernel.proofs.kernel.Kernel.work_in.Goals as goal

pub hold-requires : goal.hold-requires
hold-requires g c =
    let may = rw (← c.self.view_is) at c.requires in
    record { up = may.up; node = folder-there may.folder; few = hold-few c.self.invariant.sound may.up c.args.number }

pub overflow_cast-number : goal.overflow_cast-number
overflow_cast-number g c =
    let may = rw (← c.self.view_is) at c.requires in
    let low = work-fits (runner-of c.self.invariant.sound may.running) c.args.number may c.is_whole.ensures in
    omega arith

pub let_one_go-requires : goal.let_one_go-requires
let_one_go-requires g c =
    let may = rw (← c.self.view_is) at c.requires in
    rw (c.hold.ensures, c.directory-left.ensures, ← c.self.view_is)
    (record {
      up = may.up;
      held = work-held (runner-of c.self.invariant.sound may.running) c.args.number may
          c.is_whole.ensures;
    })

pub invariant_of-self : goal.invariant_of-self
invariant_of-self g c =
    rw (c.set_directory.ensures, c.current-at.ensures, ← c.self.view_is)
    (work-keeps c.self.invariant (rw (← c.self.view_is) at c.requires) c.is_whole.ensures c.let_one_go.new.tree
    c.let_one_go.result (rw (c.hold.ensures, c.directory-left.ensures, ← c.self.view_is) at c.let_one_go.ensures))

pub returns : goal.returns
returns g c = rw (c.set_directory.ensures, c.current-at.ensures, ← c.self.view_is)
    (work-serves (kernel_of c.self.inside) _ c.args.number
    (rw (c.hold.ensures, c.directory-left.ensures, ← c.self.view_is) at c.let_one_go.ensures))
