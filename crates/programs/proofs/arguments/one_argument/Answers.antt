use Rattle.programs.proofs.Common.{refl, zeros}
use Rattle.programs.proofs.Stacks.{one-passed, one-refused}
use Rattle.programs.proofs.arguments.one_argument.Goals as goal

pub returns-in_default : goal.returns-in_default
returns-in_default c = one-refused c.in_default.ensures

pub returns : goal.returns
unfolding zeros
returns c = one-passed _ _ _ _ _ _ refl refl c.in-Some.ensures c.put_pointer.ensures refl c.finish.ensures
