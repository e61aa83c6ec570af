use Rattle.std.proofs.Common.{◌≡◌, ◌++◌, flat_map, take}
use Rattle.gdbreplies.specs.Replies.{row_sent}
use Rattle.gdbreplies.proofs.registers.push_rows.Given as goal

abbrev pub invariant-loop-row : goal.invariant-loop-row
invariant-loop-row l = l.out.items ≡ l.fn.out.items
    ++ flat_map (λ r. row_sent r.0.now r.1.now r.2.now r.3.now r.4.now) (take l.row-index l.rows)
