use Rattle.std.proofs.Common.{◌<◌, ◌≡◌, length, option_map, ℕ}
use Rattle.machine.specs.Holdings.{file_told}
use Rattle.std.specs.Prelude.{option_and_then}
use Rattle.unixmodel.specs.Files.{slot}
use Rattle.jsonrows.proofs.descriptors.descriptors_of.Given as goal

-- those so far are found
abbrev pub invariant-loop-descriptor : goal.invariant-loop-descriptor
invariant-loop-descriptor g l =
    (length l.opened ≡ 16) ×
    ((k : ℕ) → k < l.descriptor → option_map file_told (slot l.opened k)
    ≡ option_and_then (slot l.machine.state.opens) (slot l.holdings.descriptors k))
