use Rattle.std.specs.Prelude.{◌≡◌, vec_len}
use Rattle.hart.proofs.decoded.Decoded.new.Given as goal

abbrev pub invariant-loop : goal.invariant-loop
invariant-loop l = vec_len l.all ≡ l.counter
