use Rattle.kernel.proofs.Common.{ap, Kernel, slot, ◌∙◌}
use Rattle.kernel.proofs.Pending.{nobody-then, pid-then}
use Rattle.kernel.proofs.kernel.Kernel.pending_turn.Goals as goal

pub returns-in-None : goal.returns-in-None
returns-in-None g c = nobody-then c.args.self.now c.in-None.ensures

pub returns-in-Some : goal.returns-in-Some
returns-in-Some g c =
    let there = c.process.ensures.process ∙ ap (λ (k : Kernel). slot k.table.places c.in-Some.next) c.self.view_is in
    pid-then c.args.self.now c.is_sound.ensures.sound c.in-Some.next _ c.in-Some.ensures
    (rw there at c.pid_of.ensures)
