use Rattle.console.proofs.Common.{refl, ring}
use Rattle.console.proofs.input.Console.new.Goals as goal

pub returns : goal.returns
unfolding ring
returns c = refl
