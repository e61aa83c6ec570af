use Rattle.hart.proofs.state.Hart.word.Goals as goal

pub returns : goal.returns
returns c = λ pc. rw (← c.read.ensures, ← c.read-2.ensures, ← c.word_op.ensures) (c.put.ensures pc)
