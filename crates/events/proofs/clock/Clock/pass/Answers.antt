use Rattle.std.proofs.Common.{sym}
use Rattle.events.proofs.Clocking.{passed-every, passed-other}
use Rattle.events.proofs.clock.Clock.pass.Goals as goal

pub returns-in-Every : goal.returns-in-Every
returns-in-Every c = let within = rw c.in-Every.is at c.requires in rw c.in-Every.is (sym (passed-every _ _ _ within))

pub returns-in_default : goal.returns-in_default
returns-in_default c = passed-other _ _ c.requires c.in_default.not-Every
