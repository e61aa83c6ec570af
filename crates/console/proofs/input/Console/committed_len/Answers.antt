use Rattle.console.proofs.Common.{sym, length-ring}
use Rattle.console.proofs.input.Console.committed_len.Goals as goal

pub returns : goal.returns
returns c =
    rw (← c.self.view_is) (sym (length-ring _ _ _ _))
