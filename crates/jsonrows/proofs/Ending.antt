-- Who can end a wait, found by a walk over the pids.
use Rattle.std.proofs.Common.{List, None, Option, Some, ap, false, is_some, refl, sym, ℕ, ◌++◌, ◌-◌, ◌^◌, ◌∙◌, ◌≡◌, ◌≤◌}
use Rattle.jsonrows.specs.Enders.{ender, enders}
use Rattle.unixmodel.specs.Process.{Process}
use Rattle.unixmodel.specs.Shown.{shown_process}
use Rattle.unixmodel.specs.State.{State}
use Rattle.waits.proofs.ByPid.{IsLeastAbove, NoneAbove, end, next}
use Rattle.waits.specs.declared.awaited.Wait.{Wait}
use Rattle.waits.specs.declared.awaited.Wait.TheVariants.{Bytes, Child, Console, Room, Tick}
use Rattle.waits.specs.Pids.{by_pid, listed}

of-none : (s : State) (waiter : ℕ) (wait : Wait) (pid : ℕ) → shown_process s pid ≡ None → ender s waiter wait pid ≡ None
of-none s waiter Child pid is = rw is refl
of-none s waiter Console pid is = refl
of-none s waiter (Bytes pipe) pid is = rw is refl
of-none s waiter (Room pipe) pid is = rw is refl
of-none s waiter (Tick tick) pid is = refl

not-there : (p : Option Process) → is_some p ≡ false → p ≡ None
not-there None e = refl
not-there (Some p) e = absurd (cc)

module _ (s : State) (waiter : ℕ) (wait : Wait) where
  -- who is not there ends nothing
  gone : (pid : ℕ) → is_some (shown_process s pid) ≡ false → ender s waiter wait pid ≡ None
  gone pid e = of-none s waiter wait pid (not-there (shown_process s pid) e)

  module _ (last : ℕ) (found : List ℕ) (so_far : found ≡ by_pid (ender s waiter wait) last) where
    -- what there is of the next process comes after what was found
    pub ender-more : (pid : ℕ) → IsLeastAbove (λ pid. is_some (shown_process s pid)) last pid
        → found ++ listed (ender s waiter wait pid) ≡ by_pid (ender s waiter wait) pid
    ender-more pid least =
        ap (λ xs. xs ++ listed (ender s waiter wait pid)) so_far
        ∙ sym (next (ender s waiter wait) (λ pid. is_some (shown_process s pid)) gone last pid least)

    -- where there are no more processes they are all
    pub ender-all : last ≤ 2 ^ 32 - 1 → NoneAbove (λ pid. is_some (shown_process s pid)) last
        → found ≡ enders s waiter wait
    unfolding enders
    ender-all h none =
        so_far
        ∙ sym (end (ender s waiter wait) (λ pid. is_some (shown_process s pid)) gone last (2 ^ 32 - 1) h none)
