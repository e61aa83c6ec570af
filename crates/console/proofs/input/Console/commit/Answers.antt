use Rattle.console.proofs.Lines.{line-commit}
use Rattle.console.proofs.input.Console.commit.Goals as goal

pub returns : goal.returns
returns c =
    rw (← c.self.view_is) (line-commit _ _ _ _)
