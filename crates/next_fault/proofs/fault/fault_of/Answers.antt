use Rattle.std.proofs.Common.{ap, ◌∙◌}
use Rattle.next_fault.specs.Causes.{told_in}
use Rattle.next_fault.proofs.Cycles.{fault-shown, unseen, without-trap}
use Rattle.unixmodel.specs.Shown.{shown_process}
use Rattle.next_fault.proofs.fault.fault_of.Goals as goal

pub returns-in_err-trap : goal.returns-in_err-trap
returns-in_err-trap g c = ap told_in c.from_residual.ensures
    ∙ without-trap (shown_process c.args.machine.now.state c.args.pid) c.in_err-trap.ensures

pub returns-in_err-seen : goal.returns-in_err-seen
returns-in_err-seen g c = ap told_in c.from_residual-in_err-seen.ensures
    ∙ unseen (shown_process c.args.machine.now.state c.args.pid) c.in_err-seen.ensures

pub returns-in_default : goal.returns-in_default
returns-in_default g c =
    fault-shown (shown_process c.args.machine.now.state c.args.pid) c.in_ok-seen.seen c.in_ok-trap.trap
    c.in_ok-seen.ensures c.in_ok-trap.ensures

pub returns-in-IllegalInstruction : goal.returns-in-IllegalInstruction
returns-in-IllegalInstruction g c =
    fault-shown (shown_process c.args.machine.now.state c.args.pid) c.in_ok-seen.seen c.in_ok-trap.trap
    c.in_ok-seen.ensures c.in_ok-trap.ensures

pub returns-in-InstructionPageFault : goal.returns-in-InstructionPageFault
returns-in-InstructionPageFault g c =
    fault-shown (shown_process c.args.machine.now.state c.args.pid) c.in_ok-seen.seen c.in_ok-trap.trap
    c.in_ok-seen.ensures c.in_ok-trap.ensures

pub returns-in-InstructionMisaligned : goal.returns-in-InstructionMisaligned
returns-in-InstructionMisaligned g c =
    fault-shown (shown_process c.args.machine.now.state c.args.pid) c.in_ok-seen.seen c.in_ok-trap.trap
    c.in_ok-seen.ensures c.in_ok-trap.ensures
