use Rattle.test_translators.proofs.chosen.ChosenTranslate.translate.Goals as goal

pub translate-requires-in-Recent : goal.translate-requires-in-Recent
translate-requires-in-Recent c = rw c.in-Recent.is at c.requires

pub translate-requires-in-RecentTlb : goal.translate-requires-in-RecentTlb
translate-requires-in-RecentTlb c = rw c.in-RecentTlb.is at c.requires

pub translate-requires-in-Noting : goal.translate-requires-in-Noting
translate-requires-in-Noting c = rw c.in-Noting.is at c.requires

pub returns-in-Tlb-clause-inside : goal.returns-in-Tlb-clause-inside
returns-in-Tlb-clause-inside c = c.translate-in-Tlb.ensures.inside (rw c.in-Tlb.is at c.requires)
