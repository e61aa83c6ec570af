use Rattle.std.proofs.Common.{take, ◌*◌, ◌≡◌}
use Rattle.unixmodel.specs.Files.{slot}
use Rattle.unixmodel.specs.Shown.{bytes_or_none}
use Rattle.explore.proofs.saved.has_same_bytes.Given as goal

abbrev pub invariant-loop-k : goal.invariant-loop-k
invariant-loop-k g l = record {
  stays : l.one.state ≡ l.fn.one.state;
  other_stays : l.other.state ≡ l.fn.other.state;
  below : take (1024 * l.k) (bytes_or_none (slot l.fn.one.state.files l.number))
      ≡ take (1024 * l.k) (bytes_or_none (slot l.fn.other.state.files l.number));
}
