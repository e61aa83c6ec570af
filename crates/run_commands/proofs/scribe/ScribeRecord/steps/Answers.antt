use Rattle.std.proofs.Common.{ap}
use Rattle.run_commands.specs.ScriptFiles.{name_of}
use Rattle.run_commands.proofs.scribe.ScribeRecord.steps.Goals as goal

pub invariant_of-self : goal.invariant_of-self
invariant_of-self g c = c.steps.ensures.sound c.self.invariant

pub returns-clause-records : goal.returns-clause-records
returns-clause-records g c = rw (← c.self.view_is) (c.steps.ensures.records c.self.invariant)

pub returns-clause-rest : goal.returns-clause-rest
returns-clause-rest g c =
    rw (← c.self.view_is) (ap (λ n. (name_of n, c.self.inside.host.ghost_name)) c.steps.ensures.name)
