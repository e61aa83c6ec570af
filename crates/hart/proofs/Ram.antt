-- A machine's memory by frames, each with its bytes.
use Rattle.std.proofs.Common.{List, ℕ}

abbrev pub Ram : Type 0
Ram = List (List ℕ)
