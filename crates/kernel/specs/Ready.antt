-- Who is ready, by what the kernel reads of the state.
use Rattle.std.specs.Prelude.{Bool, List, None, Option, [], nat_le, option_map, true, ℕ, ◌%◌, ◌+◌, ◌-◌, ◌^◌, ◌≡◌}
use Rattle.kernel.specs.declared.ready.Awaited.{Awaited}
use Rattle.kernel.specs.Kernel.{base}
use Rattle.files.specs.Places.{opens_of}
use Rattle.proc.specs.declared.process.Process.{Process}
use Rattle.kernel.specs.Whole.{with_space, with_table}
use Rattle.spaces.specs.Spaces.{Spaces, has_pipe, no_pages}
use Rattle.unixmodel.specs.Console.{Console}
use Rattle.unixmodel.specs.declared.process.Pending.{Pending}
use Rattle.unixmodel.specs.OpenFiles.{OpenFile, Target}
use Rattle.unixmodel.specs.OpenFiles.Target.{OnNode, OnPipe}
use Rattle.unixmodel.specs.ProcessCalls.{sleep_time}
use Rattle.unixmodel.specs.State.{State}
use Rattle.unixmodel.specs.Turn.{pending_file}

-- ---- sleep

abbrev pub has_slept : ℕ → Pending → Bool
has_slept ticks w = nat_le (sleep_time w) ((ticks + (2 ^ 32 - w.since)) % 2 ^ 32)

-- ---- who is ready

-- the part of the state that pending calls read, beside the processes
abbrev pub awaited_in : List (Option OpenFile) → List (Option (List ℕ)) → Console → ℕ → State
awaited_in opens pipes console ticks =
    base (record {
      files = [];
      block_limit = 0;
      opens = opens;
      pipes = pipes;
      console = console;
      ticks = ticks;
      frames = 0;
      halted = None;
    })

abbrev pub awaited : {T : Type 0} → Awaited T → State
awaited a = awaited_in (opens_of a.files.now) a.spaces.now.pipes a.console.now a.ticks

-- with these processes, whose spaces don't count
abbrev pub seen : State → List (Option Process) → State
seen s places = with_table s (record { places = places; last = 0; next_pid = 0; awake = [] }) []

-- the pipe that it is an end of is there
abbrev pub Stands : Spaces → Target → Type 0
Stands s (OnNode n offset) = Unit {0}
Stands s (OnPipe q end) = has_pipe s q ≡ true

-- what the open file of a pending read or write is open on
abbrev pub pending_target : State → Process → Pending → Option Target
pending_target s p w = option_map (λ (f : OpenFile). f.target) (pending_file s (with_space no_pages p) w)
