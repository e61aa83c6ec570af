use Rattle.std.proofs.Common.{refl}
use Rattle.vm.proofs.access.marks_of.Goals as goal

pub returns : goal.returns
returns c = rw (c.contains.ensures tt, c.contains-2.ensures tt, c.contains-3.ensures tt, c.contains-4.ensures tt) refl
