use Rattle.std.proofs.Common.{◌≡◌, ◌++◌, ◌-◌, ◌≤◌, drop, length, option_map}
use Rattle.gdbwire.specs.Hex.{bytes_of}
use Rattle.gdbwire.proofs.hex.push_decoded.Given as goal

-- the bytes of the digits so far are at the end
abbrev pub invariant-loop-at : goal.invariant-loop-at
invariant-loop-at l = record {
  within : l.at ≤ length l.digits;
  rest : option_map (λ bytes. l.fn.out.items ++ bytes) (bytes_of l.digits)
      ≡ option_map (λ bytes. l.out.items ++ bytes) (bytes_of (drop l.at l.digits));
}

abbrev pub decreases-loop-at : goal.decreases-loop-at
decreases-loop-at l = length l.digits - l.at
