use Rattle.std.proofs.Common.{codes}
use Rattle.tracetext.specs.Commits.{wide}
use Rattle.tracetext.proofs.CommitLemmas.{both}
use Rattle.tracetext.proofs.commit_lines.put_touched.Goals as goal

pub returns-clause-items : goal.returns-clause-items
returns-clause-items c =
    both c.args.line.now.items (codes " mem ") (wide c.args.address) c.put.ensures.items c.put_wide.ensures.items
