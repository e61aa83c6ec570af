use Rattle.commandline.proofs.CommandLineLemmas.{word-found}
use Rattle.commandline.proofs.command_line.word_found.Goals as goal

pub returns : goal.returns
returns c = word-found (λ s. s.now) c.option_found.result _ c.option_found.ensures
