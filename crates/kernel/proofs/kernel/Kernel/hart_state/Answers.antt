use Rattle.kernel.proofs.Common.{◌≡◌, ◌∙◌, Kernel, ap, option_map, sym}
use Rattle.kernel.proofs.Turning.{running-me, running-nobody, runner-of}
use Rattle.kernel.proofs.kernel.Kernel.hart_state.Goals as goal
use Rattle.kernel.specs.Idle.{on_hart_of}

pub returns-in-None : goal.returns-in-None
returns-in-None g c =
    sym (ap (option_map on_hart_of) (running-nobody c.is_sound.ensures.sound (sym c.in-None.ensures)))

pub returns-in-Some : goal.returns-in-Some
returns-in-Some g c =
    let registers : c.registers.result.now ≡ c.args.self.now.spaces.registers =
    c.registers.ensures.registers ∙ ap (λ (k : Kernel). k.spaces.registers) c.self.view_is in
    let pc : c.pc.result ≡ c.args.self.now.spaces.pc =
    c.pc.ensures.pc ∙ ap (λ (k : Kernel). k.spaces.pc) c.self.view_is in
    rw (registers, pc) (sym (ap (option_map on_hart_of)
    (running-me (runner-of c.is_sound.ensures.sound (sym c.in-Some.ensures)))))
