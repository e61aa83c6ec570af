use Rattle.asm.proofs.Common.{◌≡◌, List, bytes_eq, drop, map, ℕ, get_by, position_from, option_or, named, placed_seen}
use Rattle.asm.proofs.labels.labels.Given as goal

abbrev pub invariant-loop-index : goal.invariant-loop-index
invariant-loop-index l =
    (name : List ℕ) → option_or (get_by (λ k. bytes_eq name k.now) l.labels)
    (position_from (named name) l.index (map placed_seen (drop l.index l.placed)))
    ≡ position_from (named name) 0 (map placed_seen l.placed)
