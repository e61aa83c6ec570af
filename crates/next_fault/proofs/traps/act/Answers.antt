-- A load or a store may be done where the memory that is shown allows it.
use Rattle.std.proofs.Common.{ap, ◌∙◌, ℕ, slice_index}
use Rattle.next_fault.specs.Causes.{memory_shown, trap_of}
use Rattle.unixmodel.specs.Meaning.{act, load, store}
use Rattle.unixmodel.specs.Memory.{Memory}
use Rattle.next_fault.proofs.traps.act.Goals as goal

pub returns-in-Load : goal.returns-in-Load
unfolding act
returns-in-Load g c =
    let mem : Memory = memory_shown c.args.machine.now.state c.args.pid in
    rw c.in-Load.is
    (c.load.ensures c.args.seen.now.registers c.args.seen.now.pc c.in-Load.rd
    ∙ ap (λ (a : ℕ). trap_of (load c.args.seen.now.registers c.args.seen.now.pc mem c.in-Load.op c.in-Load.rd a))
    c.sum-in-Load.ensures)

pub returns-in-Store : goal.returns-in-Store
unfolding act
returns-in-Store g c =
    let mem : Memory = memory_shown c.args.machine.now.state c.args.pid in
    let value : ℕ = slice_index c.args.seen.now.registers c.in-Store.rs2 in
    rw c.in-Store.is
    (c.store.ensures c.args.seen.now.registers c.args.seen.now.pc value
    ∙ ap (λ (a : ℕ). trap_of (store c.args.seen.now.registers c.args.seen.now.pc mem c.in-Store.op a value))
    c.sum-in-Store.ensures)
