use Rattle.std.proofs.Common.{◌≡◌, ◌<◌, ℕ, None, false, get_or, length, map}
use Rattle.tracetext.specs.Names.{first_unknown, is_among}
use Rattle.tracetext.proofs.call_names.CallSet.parse.Given as goal

abbrev pub invariant-loop-name : goal.invariant-loop-name
invariant-loop-name l =
    (goal.iterator-loop-name).can_next l.name-iterator ×
    (goal.iterator-loop-name).is_finite l.name-iterator ×
    (length l.set.has ≡ 22) ×
    (first_unknown (map (λ name. name.now) l.yielded) ≡ None) ×
    ((number : ℕ) → number < 22
    → get_or l.set.has number false ≡ is_among number (map (λ name. name.now) l.yielded))
