-- What is returned is what the cycle of the process that is shown traps with.
use Rattle.std.proofs.Common.{ap, ◌∙◌, Option}
use Rattle.next_fault.specs.Causes.{memory_shown, trap_of}
use Rattle.unixmodel.specs.Cycle.{act_word}
use Rattle.unixmodel.specs.declared.instr.Instr.{Instr}
use Rattle.unixmodel.specs.Shown.{shown_process}
use Rattle.next_fault.proofs.Cycles.{shown-unfetched, shown-word}
use Rattle.next_fault.proofs.traps.cause.Goals as goal

pub returns-in-None : goal.returns-in-None
returns-in-None g c =
    c.trap.ensures ∙ shown-unfetched (shown_process c.args.machine.now.state c.args.pid) c.in_ok-seen.seen
    c.in_ok-seen.ensures c.in-None.ensures

pub returns-in-Some : goal.returns-in-Some
returns-in-Some g c =
    c.act_word.ensures
    ∙ ap (λ (i : Option Instr). trap_of
    (act_word i c.in_ok-seen.seen.registers c.in_ok-seen.seen.pc
    (memory_shown c.args.machine.now.state c.args.pid))) c.decode.ensures.is
    ∙ shown-word (shown_process c.args.machine.now.state c.args.pid) c.in_ok-seen.seen c.in-Some.word
    c.in_ok-seen.ensures c.in-Some.ensures
