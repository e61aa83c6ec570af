-- What the processes of a state wait for.
use Rattle.std.specs.Prelude.{List, None, Option, Some, option_and_then, option_map, ℕ, ◌%◌, ◌+◌, ◌-◌, ◌^◌}
use Rattle.machine.specs.Holdings.{pending_in}
use Rattle.unixmodel.specs.declared.call.Call.{Call}
use Rattle.unixmodel.specs.declared.call.Call.TheVariants as call
use Rattle.unixmodel.specs.declared.process.Pending.{Pending}
use Rattle.unixmodel.specs.OpenFiles.{OpenFile, Target}
use Rattle.unixmodel.specs.OpenFiles.End.{ReadEnd, WriteEnd}
use Rattle.unixmodel.specs.OpenFiles.Target.{OnNode, OnPipe}
use Rattle.unixmodel.specs.Process.{Process}
use Rattle.unixmodel.specs.ProcessCalls.{sleep_time}
use Rattle.unixmodel.specs.Shown.{shown_process}
use Rattle.unixmodel.specs.State.{State}
use Rattle.unixmodel.specs.Turn.{pending_file}
use Rattle.waits.specs.declared.awaited.Wait.{Wait}
use Rattle.waits.specs.declared.awaited.Wait.TheVariants.{Bytes, Child, Console, Room, Tick}
use Rattle.waits.specs.declared.listing.Waiter.{Waiter}
use Rattle.waits.specs.Pids.{by_pid}

-- what a read or a write of an open file waits for: of its nodes the console alone lets a call wait
abbrev pub wait_on : Target → Wait
wait_on (OnNode number offset) = Console
wait_on (OnPipe pipe ReadEnd) = Bytes pipe
wait_on (OnPipe pipe WriteEnd) = Room pipe

abbrev pub wait_for : State → Process → Pending → Option Wait
wait_for s p w = option_map (λ (f : OpenFile). wait_on f.target) (pending_file s p w)

-- what a pending call waits for
abbrev pub wait_in : State → Process → Pending → Call → Option Wait
wait_in s p w call.Wait = Some Child
wait_in s p w call.Sleep = Some (Tick ((w.since + sleep_time w) % 2 ^ 32))
wait_in s p w call.Read = wait_for s p w
wait_in s p w call.Write = wait_for s p w
wait_in s p w _ = None

abbrev pub wait_by : State → Process → Option Pending → Option Wait
wait_by s p None = None
wait_by s p (Some w) = wait_in s p w w.number

abbrev pub wait_at : State → Process → Option Wait
wait_at s p = wait_by s p (pending_in p.mode)

-- what the process with a pid waits for, if it does
abbrev pub wait_of : State → ℕ → Option Wait
wait_of s pid = option_and_then (wait_at s) (shown_process s pid)

abbrev pub waiter_of : State → ℕ → Option Waiter
waiter_of s pid = option_map (λ wait. record { pid = pid; wait = wait }) (wait_of s pid)

-- the processes that wait, in the order of their pids
unfoldable pub waiters : State → List Waiter
waiters s = by_pid (waiter_of s) (2 ^ 32 - 1)
