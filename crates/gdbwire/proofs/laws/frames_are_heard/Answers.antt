use Rattle.gdbwire.proofs.Bodies.{frame}
use Rattle.gdbwire.proofs.laws.frames_are_heard.Goals as goal

pub returns : goal.returns
returns c = frame
