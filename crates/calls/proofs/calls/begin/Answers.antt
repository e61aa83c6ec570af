use Rattle.calls.proofs.Acts.{begins, runs-of}
use Rattle.calls.proofs.calls.begin.Goals as goal

pub returns : goal.returns
returns g c =
    let s = c.is_sound.ensures in
    begins (runs-of c.requires.running c.requires.up s.sound s.zero s.aligned) c.enter.ensures
