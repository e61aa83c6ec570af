-- What the calls on processes make of a kernel.
use Rattle.std.specs.Prelude.{List, None, Option, Some, if◌then◌else◌, pos, ℕ, ℤ, ◌+ℤ◌, ◌==◌, suc, zero}
use Rattle.std.specs.Int.{cast_unsigned, w32}
use Rattle.proc.specs.declared.process.Process.{Process}
use Rattle.proc.specs.Places.{has_pid, place_where}
use Rattle.spaces.specs.Spaces.{view_at}
use Rattle.unixmodel.specs.Numbers.{le, natural}
use Rattle.kernel.specs.Kernel.{Kernel}
use Rattle.kernel.specs.Memory.{wrote}

-- ---- sbrk

-- the size that is requested, if it is not below 0
abbrev pub asked : Kernel → ℕ → ℤ → Option ℕ
asked k i delta = natural (pos (view_at k.spaces i).size +ℤ delta)

-- ---- wait

-- the status of a child is written to an address of process i, unless that is 0
abbrev pub with_status : Kernel → ℕ → ℕ → ℤ → Kernel
with_status k i address status = if address == 0 then k else wrote k i address (le 4 (cast_unsigned w32 status))

-- ---- kill

-- the slot of the process with a pid that is not below 1
abbrev pub place_called : List (Option Process) → Option ℕ → Option ℕ
place_called places None = None
place_called places (Some zero) = None
place_called places (Some (suc n)) = place_where places (has_pid (suc n))
