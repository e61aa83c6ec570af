use Rattle.kernel.proofs.Common.{ap, slice_set, sym, true, ◌∙◌, option_copied, Kernel, waking, with_mode, Running, refl}
use Rattle.kernel.proofs.Picking.{takes}
use Rattle.kernel.proofs.Watching.{kernel-waking, watched-changed}
use Rattle.kernel.proofs.Asleep.{no-zombie}
use Rattle.kernel.proofs.kernel.Kernel.start.Goals as goal

pub invariant_of-self : goal.invariant_of-self
invariant_of-self g c =
    let to = takes c.self.view_is c.self.invariant.sound c.requires.idle c.requires.can
    (sym c.process.ensures.process ∙ ap option_copied c.in-Some.is) in
    rw (c.wake.ensures, c.run.ensures, c.activate.ensures)
    (record {
      sound = kernel-waking to.keeps _;
      watched = watched-changed c.self.invariant.watched c.args.at (with_mode Running) (no-zombie Running refl);
    })

pub returns-in-Some : goal.returns-in-Some
returns-in-Some g c =
    let to = takes c.self.view_is c.self.invariant.sound c.requires.idle c.requires.can
    (sym c.process.ensures.process ∙ ap option_copied c.in-Some.is) in
    rw (c.wake.ensures, c.run.ensures, c.activate.ensures)
    (ap (λ (x : Kernel). waking x (slice_set c.self.inside.table.awake c.args.at true)) to.starts)
