-- What the kernel's step of exec does to the running process.
use Rattle.std.specs.Prelude.{Err, None, Ok, Option, Result, Some, slice_set, ℕ, ◌<◌, ◌≡◌, ◌≤◌}
use Rattle.blockdev.specs.declared.DeviceFault.{DeviceFault}
use Rattle.kernel.specs.Disk.{HasRead, IsLost}
use Rattle.kernel.specs.Kernel.{Kernel, counting}
use Rattle.programs.specs.declared.executing.Started.{Started}
use Rattle.programs.specs.Executed.{frames_beside, plan_at, started_by, view_by}
use Rattle.spaces.specs.Spaces.{Spaces, view_at, with_view}
use Rattle.unixmodel.specs.Plan.{Plan}

-- the hart begins a program
abbrev pub begun : Spaces → Started → Spaces
begun s p = record s { registers = slice_set (slice_set (slice_set s.registers 2 p.sp) 10 p.count) 11 p.sp; pc = p.pc }

-- a program replaces the one that process i ran
abbrev pub replaced_by : Kernel → ℕ → Plan → Kernel
replaced_by k i new = record k { spaces = begun (with_view k.spaces i (view_by new)) (started_by new) }

-- the program of file n does, with the arguments that argv points at
pub record HasReplaced (old new : Kernel) (i n argv : ℕ) (started : Started) : Type 0 where
  pub plan : Plan
  pub is : plan_at old.tree.files n (view_at old.spaces i).memory argv ≡ Some plan
  pub fits : frames_beside old.spaces plan ≤ old.spaces.frames
  pub begins : started ≡ started_by plan
  pub same : new ≡ counting (replaced_by old i plan) new.tree.failures
  pub later : old.tree.failures ≤ new.tree.failures

-- it does, or it has no plan, or the frames don't suffice for it beside the old one
abbrev pub Replaces : Kernel → Kernel → ℕ → ℕ → ℕ → Option Started → Type 0
Replaces old new i n argv None = HasRead old new
    × ((p : Plan) → plan_at old.tree.files n (view_at old.spaces i).memory argv ≡ Some p
    → old.spaces.frames < frames_beside old.spaces p)
Replaces old new i n argv (Some started) = HasReplaced old new i n argv started

-- what such a step leaves
abbrev pub ReplacesDisk : Kernel → Kernel → ℕ → ℕ → ℕ → Result (Option Started) DeviceFault → Type 0
ReplacesDisk old new i n argv (Ok o) = Replaces old new i n argv o
ReplacesDisk old new i n argv (Err fault) = IsLost old.tree new.tree
