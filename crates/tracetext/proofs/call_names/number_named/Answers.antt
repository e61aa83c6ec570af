use Rattle.std.proofs.Common.{ap, arith, option_map, rules, sym, ◌+◌}
use Rattle.tracetext.specs.Names.{names}
use Rattle.tracetext.proofs.NameLemmas.{many, place_is, place_none}
use Rattle.tracetext.proofs.call_names.number_named.Goals as goal

pub returns-then-is-clause-named : goal.returns-then-is-clause-named
returns-then-is-clause-named c =
    sym (ap (option_map (λ index. index + 1)) (place_is names c.args.name.now c.loop-index.index (omega (arith, many))
    c.loop-index.invariant (search rules)))

pub returns-clause-named : goal.returns-clause-named
returns-clause-named c =
    sym (ap (option_map (λ index. index + 1)) (place_none names c.args.name.now
    (λ k h. c.loop-index.invariant k (omega (arith, many)))))
