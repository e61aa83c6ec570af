use Rattle.kernel.proofs.Common.{refl, Waiting}
use Rattle.kernel.proofs.Steps.{block-keeps}
use Rattle.kernel.proofs.Watching.{left-watched}
use Rattle.kernel.proofs.kernel.Kernel.block.Goals as goal

pub leave-requires : goal.leave-requires
leave-requires g c =
    let s = c.is_sound.ensures in
    record {
      sound = block-keeps s.sound c.requires.running s.zero s.aligned c.requires.pending c.requires.awaits;
      watched = left-watched s.sound s.watched _ (Waiting c.args.pending) c.requires.running refl;
    }
