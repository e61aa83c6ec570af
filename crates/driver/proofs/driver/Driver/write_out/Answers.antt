use Rattle.std.proofs.KnownBytes.{Keeps-refl}
use Rattle.driver.proofs.driver.Driver.write_out.Goals as goal

pub returns-then-is_early-clause-kept : goal.returns-then-is_early-clause-kept
returns-then-is_early-clause-kept g c = Keeps-refl _
