use Rattle.calls.proofs.Openable.{may-be-open, opens-so}
use Rattle.calls.proofs.open_calls.open_on.Goals as goal

pub open_on-descriptor-requires : goal.open_on-descriptor-requires
open_on-descriptor-requires g c =
    rw (c.opened-file.ensures, c.target.ensures) (may-be-open c.requires.runs c.requires.may c.requires.seat)

pub returns : goal.returns
returns g c = opens-so c.requires.runs c.requires.may
    (rw (c.opened-file.ensures, c.target.ensures) at c.open_on-descriptor.ensures) c.is_sound.ensures.sound
