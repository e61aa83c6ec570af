use Rattle.imagecheck.proofs.Common.{◌≡◌, get_or, set, arith, get_or-set_other, get_or-set_same, at_or, parent_among}
use Rattle.std.proofs.Common.{length-set, ne_eqb}
use Rattle.imagecheck.proofs.tables.find_parents.Goals as goal

pub returns-clause-found : goal.returns-clause-found
returns-clause-found c = λ n l.
    let parents = c.find_firsts.new.parents in
    let long = length-set parents 1 1 in
    at_or (λ k. get_or (set parents 1 1) k 0 ≡ parent_among c.args.namings.now k) 1 n
    (get_or-set_same parents 1 1 0 (omega (arith, c.find_firsts.ensures.long, c.requires.root)))
    (λ other. rw (get_or-set_other parents 1 n 1 0 other, ne_eqb n 1 other)
    (c.find_firsts.ensures.found n (omega arith)))
