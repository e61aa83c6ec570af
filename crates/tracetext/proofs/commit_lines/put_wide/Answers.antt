use Rattle.std.proofs.Common.{◌++◌, ◌∙◌, ap, codes}
use Rattle.tracetext.specs.Commits.{low_digits}
use Rattle.tracetext.proofs.CommitLemmas.{both}
use Rattle.tracetext.proofs.commit_lines.put_wide.Goals as goal

pub returns-clause-items : goal.returns-clause-items
returns-clause-items c =
    both c.args.line.now.items (codes "0x") (low_digits 16 c.args.value) c.put.ensures.items
    (c.put-2.ensures.items ∙ ap (λ text. c.put.new.line.items ++ text) c.sixteen.ensures)
