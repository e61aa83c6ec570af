use Rattle.std.proofs.Common.{◌≡◌, ◌++◌, flat_map, take}
use Rattle.gdbreplies.specs.Replies.{register_sent}
use Rattle.gdbreplies.proofs.registers.push_registers.Given as goal

abbrev pub invariant-loop-value : goal.invariant-loop-value
invariant-loop-value l = l.out.items ≡ l.fn.out.items ++ flat_map register_sent (take l.value-index l.registers)
