use Rattle.explore.proofs.Walking.{leads-on}
use Rattle.explore.proofs.along.steps_on.Goals as goal

pub returns-in-Some : goal.returns-in-Some
returns-in-Some c = leads-on c.args.path.now c.in-Some.path c.args.further.now c.steps_between.result c.in-Some.is
    c.steps_between.ensures
