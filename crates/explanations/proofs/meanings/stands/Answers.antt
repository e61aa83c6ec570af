use Rattle.explanations.proofs.Occurs.{is-occurs}
use Rattle.explanations.proofs.meanings.stands.Goals as goal

pub returns-in-Within : goal.returns-in-Within
returns-in-Within c = rw c.in-Within.is (is-occurs c.args.text.now c.args.line.now _ c.contains.ensures.cases)
