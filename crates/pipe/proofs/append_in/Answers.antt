use Rattle.pipe.proofs.Steps.{frame-put}
use Rattle.pipe.proofs.append_in.Goals as goal

pub returns-clause-bytes : goal.returns-clause-bytes
returns-clause-bytes c =
    rw (frame-put c.args.ram.now c.requires.frame c.append.ensures.size, ← c.frame_mut.ensures.value)
    c.append.ensures.bytes
