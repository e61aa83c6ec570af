use Rattle.std.proofs.Common.{ap, arith, length, sym, take, ◌∙◌}
use Rattle.std.proofs.lemmas.List.{take_all}
use Rattle.explanations.proofs.words.before_colon.Goals as goal

pub returns-in-Some : goal.returns-in-Some
returns-in-Some c = (c.in-Some.ensures.byte (omega arith) (λ w o h. h)).0

pub returns-in-None : goal.returns-in-None
returns-in-None c =
    let all = c.in-None.ensures.byte (omega arith) (λ w o h. h) in
    sym (ap (λ n. take n c.args.text.now) all ∙ take_all (length c.args.text.now) c.args.text.now (omega arith))
