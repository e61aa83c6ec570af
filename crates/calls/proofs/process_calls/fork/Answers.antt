use Rattle.calls.proofs.Processes.{fork-refused, forks}
use Rattle.calls.proofs.process_calls.fork.Goals as goal

pub returns-in_default : goal.returns-in_default
returns-in_default g c =
    let d = rw c.in_default.is at c.fork.ensures in
    rw d.1 (fork-refused c.requires d.0)

pub returns : goal.returns
returns g c =
    let d = c.in-Some.ensures in
    rw (c.from.ensures, d.1) (forks c.requires c.is_sound.ensures.sound d.2)
