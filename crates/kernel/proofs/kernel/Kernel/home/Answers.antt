use Rattle.kernel.proofs.kernel.Kernel.home.Goals as goal

pub returns-in-Some-clause-rules : goal.returns-in-Some-clause-rules
returns-in-Some-clause-rules g c = (c.is_sound.ensures.sound.used c.requires.up).rules

pub returns-in-None-clause-rules : goal.returns-in-None-clause-rules
returns-in-None-clause-rules g c = (c.is_sound.ensures.sound.used c.requires.up).rules
