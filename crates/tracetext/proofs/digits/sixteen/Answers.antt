use Rattle.std.proofs.Common.{◌<◌, ◌∙◌, ap, map, subst, sym}
use Rattle.std.specs.Simd.Lanes.{Each1}
use Rattle.tracetext.proofs.DigitLemmas.{digits_of_halves, halves_are_small}
use Rattle.tracetext.proofs.digits.sixteen.Goals as goal
use Rattle.tracetext.specs.Commits.{digit_of}

pub spelled-requires-clause-small : goal.spelled-requires-clause-small
spelled-requires-clause-small c =
    subst (Each1 (λ x. x < 16)) (sym c.halves.ensures) (halves_are_small 16 c.args.n)

pub returns : goal.returns
returns c = c.spelled.ensures ∙ ap (map digit_of) c.halves.ensures ∙ digits_of_halves 16 c.args.n
