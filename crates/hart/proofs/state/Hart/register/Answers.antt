use Rattle.hart.proofs.state.Hart.register.Goals as goal

pub returns : goal.returns
returns c = λ pc. rw (← c.read.ensures, ← c.read-2.ensures, ← c.register_op.ensures) (c.put.ensures pc)
