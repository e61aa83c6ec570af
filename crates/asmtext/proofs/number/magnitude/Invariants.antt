use Rattle.asmtext.proofs.Common.{◌≡◌, ◌≤◌, take, digits_value}
use Rattle.asmtext.proofs.number.magnitude.Given as goal

abbrev pub invariant-loop-digit : goal.invariant-loop-digit
invariant-loop-digit l = record {
  value : l.value ≡ digits_value l.radix (take l.digit-index l.digits);
  bound : l.value ≤ l.most;
}
