use Rattle.std.proofs.Common.{◌-◌, ◌++◌, ◌∙◌, ap, drop, take}
use Rattle.tracetext.proofs.CommitLemmas.{last_digits}
use Rattle.tracetext.proofs.commit_lines.put_last.Goals as goal

pub returns-clause-items : goal.returns-clause-items
returns-clause-items c =
    let count = c.args.count in
    c.put.ensures.items
    ∙ ap (λ text. c.args.line.now.items ++ text)
    (ap (λ digits. take (16 - (16 - count)) (drop (16 - count) digits)) c.sixteen-digits.ensures
    ∙ last_digits count c.args.value c.requires.count)
