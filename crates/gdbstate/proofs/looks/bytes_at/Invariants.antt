use Rattle.std.proofs.Common.{◌+◌, ◌++◌, ◌-◌, ◌≡◌}
use Rattle.gdbstate.specs.Looks.{bytes_shown}
use Rattle.gdbstate.proofs.looks.bytes_at.Given as goal

-- the bytes so far are the first of those that are there
abbrev pub invariant-loop-index : goal.invariant-loop-index
invariant-loop-index l = bytes_shown l.machine.state l.pid l.address l.count
    ≡ l.bytes.items ++ bytes_shown l.machine.state l.pid (l.address + l.index) (l.count - l.index)
