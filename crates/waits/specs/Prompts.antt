-- Whether a state waits for a typed line, and whether time alone changes nothing.
use Rattle.std.specs.Prelude.{Bool, Option, Some, false, not, true, ℕ, ◌&&◌, ◌<◌, ◌≡◌}
use Rattle.kernel.specs.Idle.{is_anyone_asleep, is_idle}
use Rattle.unixmodel.specs.Process.{Process, is_zombie}
use Rattle.unixmodel.specs.Shown.{shown_process}
use Rattle.unixmodel.specs.State.{State, holds}
use Rattle.waits.specs.declared.awaited.Wait.{Wait}
use Rattle.waits.specs.declared.awaited.Wait.TheVariants.{Console}
use Rattle.waits.specs.Waits.{wait_of}

-- a process that has not ended
abbrev pub is_living : Process → Bool
is_living p = not (is_zombie p)

abbrev pub is_alive : State → ℕ → Bool
is_alive s pid = holds is_living (shown_process s pid)

-- it waits in read of the console
abbrev pub is_console : Option Wait → Bool
is_console (Some Console) = true
is_console _ = false

abbrev pub reads_console : State → ℕ → Bool
reads_console s pid = is_console (wait_of s pid)

-- nobody is ready, the shell waits in read of the console, and no process is alive but it and process 1
pub record IsAtPrompt (s : State) : Type 0 where
  pub idle : is_idle s ≡ true
  pub shell : ℕ
  pub named : 0 < shell
  pub reads : reads_console s shell ≡ true
  pub alone : (pid : ℕ) → 1 < pid → is_alive s pid ≡ true → pid ≡ shell

-- nobody is ready, and nobody sleeps: time alone makes nobody ready
abbrev pub is_quiet : State → Bool
is_quiet s = is_idle s && not (is_anyone_asleep s)
