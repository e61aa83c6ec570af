use Rattle.driver.proofs.Walking.{goes-quiet}
use Rattle.driver.proofs.driver.Driver.stride.Goals as goal

pub returns-clause-goes : goal.returns-clause-goes
returns-clause-goes g c =
    goes-quiet c.stretch-made.ensures.gives c.stretch-made.ensures.within c.stretch-made.ensures.still
    c.stretch-made.ensures.later c.steps.ensures.records c.requires.quiet c.pass.ensures
