-- Lines at their addresses, as the definitions see them.
use Rattle.std.specs.Prelude.{None, Option, Some, if◌then◌else◌, negsuc, pos, ℕ, ℤ}
use Rattle.unixmodel.specs.Assembly.{Placed as ThePlaced, is_step}
use Rattle.asmtext.specs.Statements.{line_seen}
use Rattle.asm.specs.declared.layout.Placed.{Placed}

abbrev pub placed_seen : Placed → ThePlaced
placed_seen p = record { number = p.number; address = p.address; line = line_seen p.line.now }

-- the number, if padding goes up to its multiples
abbrev pub step_of : ℤ → Option ℕ
step_of (pos n) = if is_step n then Some n else None
step_of (negsuc n) = None
