use Rattle.kernel.proofs.Common.{ap, option_map, sym}
use Rattle.kernel.proofs.Current.{has-current}
use Rattle.kernel.proofs.Turning.{running-me, running-nobody, runner-of}
use Rattle.kernel.proofs.kernel.Kernel.running.Goals as goal
use Rattle.unixmodel.specs.Process.{Process}

pub returns-in-None : goal.returns-in-None
returns-in-None g c = sym
    (ap (option_map (λ (p : Process). p.pid)) (running-nobody c.is_sound.ensures.sound (sym c.in-None.ensures)))

pub returns-in-Some : goal.returns-in-Some
returns-in-Some g c =
    let x = runner-of c.is_sound.ensures.sound (has-current (sym c.in-Some.ensures)) in
    let pid = rw x.run.process at c.pid.ensures in
    rw pid (sym (ap (option_map (λ (p : Process). p.pid)) (running-me x)))
