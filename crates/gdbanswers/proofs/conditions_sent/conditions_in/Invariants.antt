use Rattle.std.specs.Prelude.{vec_len, ◌≤◌}
use Rattle.gdbanswers.proofs.conditions_sent.conditions_in.Given as goal

abbrev pub invariant-condition : goal.invariant-condition
invariant-condition l = vec_len l.codes ≤ l._condition
