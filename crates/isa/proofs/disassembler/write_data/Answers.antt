use Rattle.std.proofs.Common.{rules}
use Rattle.isa.proofs.Words.{eight}
use Rattle.isa.proofs.disassembler.write_data.Goals as goal

pub returns : goal.returns
returns g c = rw (← eight c.args.word c.ranges.word.fits) (search rules)
