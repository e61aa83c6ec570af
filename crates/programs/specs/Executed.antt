-- A program that replaces another.
use Rattle.std.specs.Prelude.{None, Option, Some, length, option_and_then, ℕ, ◌+◌, ◌<◌, ◌≡◌, ◌≤◌}
use Rattle.programs.specs.declared.executing.Started.{Started}
use Rattle.spaces.specs.Spaces.{SpaceView, Spaces, view_at, taken_frames, with_view}
use Rattle.unixmodel.specs.Counts.{page_frames}
use Rattle.unixmodel.specs.Files.{Files, slot}
use Rattle.unixmodel.specs.Memory.{Memory}
use Rattle.unixmodel.specs.Plan.{Plan, plan}
use Rattle.unixmodel.specs.ProcessCalls.{args_at, file_bytes}

-- the plan of the file that a number names, with the arguments that argv points at
abbrev pub plan_at : Files → ℕ → Memory → ℕ → Option Plan
plan_at files number mem argv =
    option_and_then (λ file. option_and_then (plan file) (args_at mem argv)) (file_bytes (slot files number))

-- the frames of a program beside the old one
abbrev pub frames_beside : Spaces → Plan → ℕ
frames_beside s new = taken_frames s + 3 + page_frames (length new.memory)

abbrev pub view_by : Plan → SpaceView
view_by new = record { memory = new.memory; size = new.size }

abbrev pub started_by : Plan → Started
started_by new = record { pc = new.pc; count = new.argc; sp = new.sp }

-- a program that is executed
pub record IsExecuted (planned : Option Plan) (old new : Spaces) (at : ℕ) (s : Started) : Type 0 where
  pub plan : Plan
  pub is : planned ≡ Some plan
  pub fits : frames_beside old plan ≤ old.frames
  pub held : new ≡ with_view old at (view_by plan)
  pub started : s ≡ started_by plan

-- it is, or it has no plan, or the frames don't suffice
abbrev pub Executes : Files → Spaces → Spaces → ℕ → ℕ → ℕ → Option Started → Type 0
Executes files old new at number argv None = (new ≡ old)
    × ((p : Plan) → plan_at files number (view_at old at).memory argv ≡ Some p → old.frames < frames_beside old p)
Executes files old new at number argv (Some s) =
    IsExecuted (plan_at files number (view_at old at).memory argv) old new at s
