use Rattle.proc.proofs.Common.{ap, arith, refl, ◌≤◌, Places}
use Rattle.proc.proofs.Seats.{seat-pid}
use Rattle.proc.proofs.Waiting.{sound-put}
use Rattle.proc.proofs.table.Table.take_seat.Goals as goal

pub invariant_of-self : goal.invariant_of-self
invariant_of-self c =
    let low : c.args.self.now.next_pid ≤ 2147483647 = seat-pid c.args.self.now c.args.seat c.requires in
    let same = ap (λ (t : Places). t.next_pid) c.self.view_is in
    sound-put c.self.invariant _ _ refl (omega arith) c.set.ensures
