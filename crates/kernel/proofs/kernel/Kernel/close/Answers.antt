use Rattle.kernel.proofs.Common.{kernel_of}
use Rattle.kernel.proofs.Closing.{close-keeps, close-serves, gone-held}
use Rattle.kernel.proofs.Turning.{runner-of}
use Rattle.kernel.proofs.kernel.Kernel.close.Goals as goal

pub let_one_go-requires : goal.let_one_go-requires
let_one_go-requires g c =
    let may = rw (← c.self.view_is) at c.requires.may in
    record {
      up = may.up;
      held = rw (c.close-gone.ensures.node, c.from.ensures)
          (gone-held (runner-of c.self.invariant.sound may.running) c.args.descriptor c.args.id may);
    }

pub invariant_of-self : goal.invariant_of-self
invariant_of-self g c =
    rw (
      c.wakeup.ensures,
      c.close-gone.ensures.pipes,
      c.close-gone.ensures.files,
      c.set_descriptor.ensures,
      c.from.ensures,
      c.current-at.ensures,
      ← c.self.view_is,
    )
    (close-keeps c.self.invariant (rw (← c.self.view_is) at c.requires.may) c.let_one_go.new.tree c.let_one_go.result
    (rw (c.close-gone.ensures.node, c.from.ensures) at c.let_one_go.ensures))

pub returns : goal.returns
returns g c =
    rw (
      c.wakeup.ensures,
      c.close-gone.ensures.pipes,
      c.close-gone.ensures.files,
      c.set_descriptor.ensures,
      c.from.ensures,
      c.current-at.ensures,
      ← c.self.view_is,
    )
    (close-serves (kernel_of c.self.inside) _ c.args.descriptor c.args.id
    (rw (c.close-gone.ensures.node, c.from.ensures) at c.let_one_go.ensures))
