-- Whom gdb holds, found by a walk over the pids.
use Rattle.std.proofs.Common.{List, None, Option, Some, ap, false, is_some, refl, sym, ℕ, ◌++◌, ◌-◌, ◌^◌, ◌∙◌, ◌≡◌, ◌≤◌}
use Rattle.gdbanswers.specs.Alive.{all_held, held}
use Rattle.unixmodel.specs.Process.{Process}
use Rattle.unixmodel.specs.Shown.{shown_process}
use Rattle.unixmodel.specs.State.{State}
use Rattle.waits.proofs.ByPid.{IsLeastAbove, NoneAbove, end, next}
use Rattle.waits.specs.Pids.{by_pid, listed}

not-there : (s : State) (released : List ℕ) (pid : ℕ) (p : Option Process) → shown_process s pid ≡ p → is_some p ≡ false
    → held s released pid ≡ None
not-there s released pid None is e = rw is refl
not-there s released pid (Some p) is e = absurd (cc)

-- who is not there is not held
gone : (s : State) (released : List ℕ) (pid : ℕ) → is_some (shown_process s pid) ≡ false → held s released pid ≡ None
gone s released pid e = not-there s released pid (shown_process s pid) refl e

module _ (s : State) (released : List ℕ) (last : ℕ) (found : List ℕ) (so_far : found ≡ by_pid (held s released) last)
  where
    -- what there is of the next process comes after what was found
    pub held-more : (pid : ℕ) → IsLeastAbove (λ pid. is_some (shown_process s pid)) last pid
        → found ++ listed (held s released pid) ≡ by_pid (held s released) pid
    held-more pid least =
        ap (λ xs. xs ++ listed (held s released pid)) so_far
        ∙ sym (next (held s released) (λ pid. is_some (shown_process s pid)) (gone s released) last pid least)

    -- where there are no more processes they are all
    pub held-all : last ≤ 2 ^ 32 - 1 → NoneAbove (λ pid. is_some (shown_process s pid)) last
        → found ≡ all_held s released
    unfolding all_held
    held-all h none =
        so_far
        ∙ sym (end (held s released) (λ pid. is_some (shown_process s pid)) (gone s released) last (2 ^ 32 - 1) h none)
