use Rattle.asmtext.proofs.operations.Partial.instr.Goals as goal

pub returns-in-Numbered : goal.returns-in-Numbered
returns-in-Numbered c = rw c.in-Numbered.is c.instr.ensures
