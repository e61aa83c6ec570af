use Rattle.vm.proofs.Common.{sym, ap, ◌∙◌, arith, word_of}
use Rattle.vm.proofs.TrapLemmas.{trap-inside, saved-is, loads-start, loads-next}
use Rattle.vm.proofs.Space.load_regs.Goals as goal

pub loop-register-init : goal.loop-register-init
loop-register-init c = loads-start _ _ _ c.told-registers

pub load_u64-requires-clause-frame : goal.load_u64-requires-clause-frame
load_u64-requires-clause-frame c = trap-inside _ c.args.self.now c.requires

pub loop-register-preserved : goal.loop-register-preserved
loop-register-preserved c =
    loads-next c.loop-register.invariant (omega arith) c.loop-register-test.true
    (c.load_u64.ensures ∙ ap (λ o. word_of c.args.ram.now c.args.self.now.trap.0 o 8) c.place_of.ensures)

pub load_u64-requires-2-clause-frame : goal.load_u64-requires-2-clause-frame
load_u64-requires-2-clause-frame c = trap-inside _ c.args.self.now c.requires

pub returns-clause-registers : goal.returns-clause-registers
returns-clause-registers c =
    let i = c.loop-register.invariant in
    sym (saved-is c.args.ram.now c.args.self.now c.loop-register.registers i.count i.first
    (λ j low high. i.loaded j low (omega arith)))
