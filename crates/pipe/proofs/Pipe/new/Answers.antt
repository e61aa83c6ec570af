use Rattle.pipe.proofs.Common.{refl}
use Rattle.pipe.proofs.Steps.{ring-none}
use Rattle.pipe.proofs.Pipe.new.Goals as goal

pub returns-clause-empty : goal.returns-clause-empty
returns-clause-empty c m = ring-none _ 0 0 refl
