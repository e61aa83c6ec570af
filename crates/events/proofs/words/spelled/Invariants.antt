use Rattle.std.proofs.Common.{List, ℕ, ◌++◌, ◌∷◌, ◌≡◌}
use Rattle.events.specs.Words.{AreSpelled}
use Rattle.events.proofs.words.spelled.Given as goal

abbrev pub invariant-loop-byte : goal.invariant-loop-byte
invariant-loop-byte l = (text : List ℕ) × (l.word ≡ (0x22 ∷ text) ++ l.rest) × AreSpelled text l.shown.items
