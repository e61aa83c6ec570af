-- How far a target is, as the definitions see it.
use Rattle.std.specs.Prelude.{ℤ}
use Rattle.unixmodel.specs.Numbers.{away}
use Rattle.asmtext.specs.Numbers.{number_of}
use Rattle.asm.specs.declared.distance.Distance.{Distance}
use Rattle.asm.specs.declared.distance.Distance.TheVariants as distance

abbrev pub distance_seen : Distance → ℤ
distance_seen (distance.Number n) = number_of n.now
distance_seen (distance.Between from to) = away from to
