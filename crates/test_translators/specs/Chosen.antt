-- What a translator of some kind holds.
use Rattle.unixmodel.specs.Translation.{Held}
use Rattle.sv39.specs.Lookaside.{Keeps, Knows}
use Rattle.test_translators.specs.Notes.{IsNoted}
use Rattle.test_translators.specs.declared.chosen.Chosen.{Chosen}
use Rattle.test_translators.specs.declared.chosen.Chosen.TheVariants as kind

abbrev pub held_by : Chosen → Held
held_by (kind.Plain _) = λ _. ⊥
held_by (kind.Tlb tlb) = Keeps 64 tlb.kept
held_by (kind.Recent recent) = Knows (λ _ _. ⊥) recent.below recent.places
held_by (kind.RecentTlb recent) = Knows (λ tlb. Keeps 64 tlb.kept) recent.below recent.places
held_by (kind.Noting noting) = IsNoted noting.notes.items
held_by (kind.Counting _) = λ _. ⊥
