use Rattle.unixmodel.specs.Translation.{IsKept}
use Rattle.test_translators.specs.Notes.{IsNoted}
use Rattle.test_translators.proofs.noting.Noting.note_ahead.Given as goal

abbrev pub invariant-loop-page : goal.invariant-loop-page
invariant-loop-page l = IsKept (IsNoted l.initial.self.notes.items) (IsNoted l.self.notes.items) l.ram l.root.0
