use Rattle.std.proofs.Common.{arith, rules}
use Rattle.ram.proofs.MemoryLemmas.{length-put}
use Rattle.multiply_rows.proofs.memory.Goals as goal

pub store_u64-requires-2-clause-frame : goal.store_u64-requires-2-clause-frame
store_u64-requires-2-clause-frame c = search (rules, arith, length-put)

pub store_u64-requires-3-clause-frame : goal.store_u64-requires-3-clause-frame
store_u64-requires-3-clause-frame c = search (rules, arith, length-put)

pub store_u32-requires-clause-frame : goal.store_u32-requires-clause-frame
store_u32-requires-clause-frame c = search (rules, arith, length-put)
