use Rattle.machine.proofs.flat_boot.first_table.Goals as goal
use Rattle.machine.proofs.FlatLemmas.{one-seated}
use Rattle.machine.proofs.Common.{all_in, ap, arith, first, seat_of, seat_of-first, ◌∙◌}

pub returns : goal.returns
returns c =
    let seat = ap seat_of c.in_ok-table.ensures ∙ seat_of-first 63 1 (all_in 64) (omega arith) in
    rw (c.alloc-seat.ensures.seat, seat, c.first.ensures, c.in_ok-table.ensures) at c.alloc-seat.ensures.ok
    ∙ one-seated (first c.args.size)
