use Rattle.timeline.proofs.copies.last_before.Goals as goal

pub returns-clause-at : goal.returns-clause-at
returns-clause-at c = λ start events first copied close. c.last_of-at.ensures.at start events first copied
