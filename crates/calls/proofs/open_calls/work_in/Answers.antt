use Rattle.calls.proofs.Common.{here-of, serves-disk}
use Rattle.calls.proofs.Opens.{chdirs}
use Rattle.calls.proofs.open_calls.work_in.Goals as goal

pub returns : goal.returns
returns g c =
    chdirs (here-of c.requires.runs) c.requires.reaches c.requires.directory c.files_are_whole.ensures
    c.is_sound.ensures.sound (c.in_ok-work_in.ensures.told, serves-disk c.in_ok-work_in.ensures)
