use Rattle.asmtext.proofs.Common.{arith, rules, sym, register_numbers}
use Rattle.asmtext.proofs.NameLemmas.{lengths, place_is, place_none}
use Rattle.asmtext.proofs.names.register_numbered.Goals as goal

pub returns-then-is : goal.returns-then-is
returns-then-is c = record {
  is = sym (place_is register_numbers c.args.name.now c.loop-r.r (omega (arith, lengths.1)) c.loop-r.invariant
      (search rules));
  within = omega arith;
}

pub returns : goal.returns
returns c = record {
  is = sym
      (place_none register_numbers c.args.name.now (λ k h. c.loop-r.invariant k (omega (arith, lengths.1))));
  within =
      tt;
}
