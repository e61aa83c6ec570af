use Rattle.machine.specs.declared.fault.BootFault.TheVariants.{NoMemory}
use Rattle.xv6_c.proofs.xv6_raw_boot.Goals as goal

-- a handle is refused for want of memory alone
pub returns-in-Ok-clause-refused : goal.returns-in-Ok-clause-refused
returns-in-Ok-clause-refused c = λ is. (NoMemory, c.put_session.ensures.refused is, tt)
