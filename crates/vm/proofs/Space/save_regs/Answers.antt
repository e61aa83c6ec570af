use Rattle.vm.proofs.Common.{◌≡◌, get_or, refl, ap, ◌∙◌, arith, put, word_bytes}
use Rattle.vm.proofs.TrapLemmas.{trap-inside, saved-is, saves-start, saves-next}
use Rattle.vm.proofs.Space.save_regs.Goals as goal

pub store_u64-requires-clause-frame : goal.store_u64-requires-clause-frame
store_u64-requires-clause-frame c = trap-inside _ c.args.self.now c.requires.mapped

pub loop-register-init : goal.loop-register-init
loop-register-init c = saves-start c.frames_are_whole.ensures.memory c.requires.mapped c.requires.once (omega arith)
    c.store_u64.ensures

pub store_u64-requires-in-loop-register-clause-frame :
    goal.store_u64-requires-in-loop-register-clause-frame
store_u64-requires-in-loop-register-clause-frame c =
    trap-inside _ c.args.self.now c.loop-register.invariant.stands.mapped

pub loop-register-preserved : goal.loop-register-preserved
loop-register-preserved c =
    saves-next c.frames_are_whole-in-loop-register.ensures.memory c.loop-register.invariant (omega arith)
    c.loop-register-test.true (c.fits-registers c.loop-register.register) refl
    (c.store_u64-in-loop-register.ensures
    ∙ ap (λ o. put c.loop-register.ram c.args.self.now.trap.0 o
    (word_bytes 8 (get_or c.args.registers.now c.loop-register.register 0))) c.place_of.ensures)

pub returns : goal.returns
returns c =
    let all : c.loop-register.register ≡ 32 = omega arith in
    let i = c.loop-register.invariant in
    let registers = saved-is c.loop-register.ram c.args.self.now c.args.registers.now c.told-registers c.requires.zero
    (λ j low high. i.saved j low (omega (arith, all))) in
    record { registers = registers; pc = i.counter; spare = i.spare; pages = i.pages; stands = i.stands }
