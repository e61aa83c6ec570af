-- The running process, as the calls' lemmas take it.
use Rattle.std.proofs.Common.{◌≡◌, ◌∙◌, ℕ, ap, false, Some, subst, sym}
use Rattle.std.specs.Prelude.{slice_set}
use Rattle.calls.specs.Acts.{Runs, RunsAt}
use Rattle.kernel.proofs.Current.{current-is}
use Rattle.kernel.proofs.Runs.{answer-run, not-killed, process-run, regs-kernel, regs-run, self}
use Rattle.kernel.proofs.Steps.{held-run}
use Rattle.kernel.proofs.Turning.{Runner, runner-of}
use Rattle.kernel.specs.Kernel.{answered, Kernel, state_of}
use Rattle.kernel.specs.Sound.{IsKernel}
use Rattle.spaces.specs.Spaces.{view_at}
use Rattle.unixmodel.specs.Calls.{row}
use Rattle.unixmodel.specs.declared.call.Call.{Call}
use Rattle.unixmodel.specs.declared.process.Pending.{Pending}
use Rattle.unixmodel.specs.Memory.{Memory}
use Rattle.unixmodel.specs.Numbers.{low}
use Rattle.unixmodel.specs.Outcome.{Outcome, pending_arg}
use Rattle.unixmodel.specs.Process.{with_answer}
use Rattle.unixmodel.specs.Process as unix
use Rattle.unixmodel.specs.State.{change_process, process_at}

abbrev pub memory_at : Kernel → ℕ → Memory
memory_at k i = (view_at k.spaces i).memory

-- how many bytes a pending read or write transfers
abbrev pub wanted : Pending → ℕ
wanted w = low (pending_arg w 2)

-- the running process and its space, in a kernel that is sound, whose device has not failed
pub record Here (k : Kernel) (i : ℕ) : Type 0 where
  pub runner : Runner k i
  pub open runner use *
  pub up : k.tree.failed ≡ false

pub here-in : {k : Kernel} {i : ℕ} → IsKernel k → k.spaces.active ≡ Some i → k.tree.failed ≡ false → Here k i
here-in sound active up = record { runner = runner-of sound active; up = up }

pub here-of : {k : Kernel} {i : ℕ} → RunsAt k i → Here k i
here-of runs = here-in runs.sound runs.active runs.up

-- it is the one of the current slot
pub runs-now : {k : Kernel} {i : ℕ} → RunsAt k i → Runs k
runs-now {k} runs = subst (RunsAt k) (sym (current-is runs.active)) runs

-- it still runs in another kernel
pub here-as : {k new made : Kernel} {i : ℕ} → Here k i → IsKernel new → new ≡ made
    → made.spaces.active ≡ k.spaces.active → new.tree.failed ≡ false → Here new i
here-as x sound is same up = here-in sound (ap (λ (y : Kernel). y.spaces.active) is ∙ same ∙ x.run.active) up

module _ {k : Kernel} {i : ℕ} (x : Here k i) where
  -- as the abstract Unix sees it
  abbrev pub me : unix.Process
  me = self k x.process x.held

  abbrev pub row_of : Call → Outcome
  row_of = row (state_of k) i me

  pub process-here : process_at (state_of k) i ≡ Some me
  process-here = process-run k i x.process x.held x.run

  pub held-here : view_at k.spaces i ≡ x.held
  held-here = held-run k i x.process x.held x.run x.sound

  pub free-here : x.process.killed ≡ false
  free-here = not-killed k i x.process x.held x.run x.sound

  pub answer-here : (value : ℕ) → change_process (state_of k) i (with_answer value) ≡ state_of (answered k value)
  answer-here = answer-run k i x.process x.held x.run x.sound

  -- with a result in a0
  abbrev pub answered-here : (value : ℕ) → Here (answered k value) i
  answered-here value =
      let regs = slice_set k.spaces.registers 10 value in
      record {
        runner = record {
          process = x.process;
          held = x.held;
          run = regs-run k i x.process x.held x.run x.sound regs k.spaces.pc;
          sound = regs-kernel k x.sound regs k.spaces.pc;
        };
        up = x.up;
      }
