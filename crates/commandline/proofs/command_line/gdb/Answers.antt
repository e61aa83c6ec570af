use Rattle.std.proofs.Common.{refl}
use Rattle.commandline.proofs.command_line.gdb.Goals as goal

pub returns : goal.returns
returns c = (_, refl, rw (← c.if-flag_found.false) c.flag_found.ensures, c.in-Some.ensures)
