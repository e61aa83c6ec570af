use Rattle.unixmodel.specs.Statements.{form_called}
use Rattle.asmtext.proofs.mnemonics.word_called.Goals as goal

pub returns : goal.returns
unfolding form_called
returns c = c.among.ensures
