use Rattle.explanations.proofs.Parts.{last-word}
use Rattle.explanations.proofs.words.last_word.Goals as goal

pub returns-in-Some : goal.returns-in-Some
returns-in-Some c = last-word c.args.line.now _ _ c.in-Some.ensures.cases
