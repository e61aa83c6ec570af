use Rattle.asm.proofs.Common.{map, rules, assembled, line_seen, Tells, placed_seen}
use Rattle.asm.proofs.AssembleLemmas.{made, told}
use Rattle.asm.proofs.assembler.assemble.Goals as goal

pub returns-clause-made : goal.returns-clause-made
returns-clause-made c =
    let lines = map line_seen c.in_ok-lines.lines.items in
    let all = map placed_seen c.in_ok-placed.placed.items in
    made c.args.text.now lines all c.in_ok-program.program.items _
    (rw c.as_bytes.ensures.value at c.in_ok-lines.ensures) (rw c.deref.ensures.value at c.in_ok-placed.ensures)
    (rw c.deref-2.ensures.value at c.in_ok-program.ensures.ok) (rw c.deref-3.ensures.value at c.in_ok-write_elf.ensures)

pub returns-in_err-program-clause-fault : goal.returns-in_err-program-clause-fault
returns-in_err-program-clause-fault c =
    let lines = map line_seen c.in_ok-lines.lines.items in
    let all = map placed_seen c.in_ok-placed.placed.items in
    let tells : Tells (assembled c.args.text.now) c.in_err-program.field-0.0 =
    told c.args.text.now lines all _ (rw c.as_bytes.ensures.value at c.in_ok-lines.ensures)
    (rw c.deref.ensures.value at c.in_ok-placed.ensures)
    (rw c.deref-2.ensures.value at c.in_err-program.ensures.err) in
    search (rules, tells)
