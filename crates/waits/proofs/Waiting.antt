-- Who waits, found by a walk over the pids.
use Rattle.std.proofs.Common.{List, None, Option, Some, ap, false, is_some, length, refl, sym, take, ℕ}
use Rattle.std.proofs.Common.{◌++◌, ◌-◌, ◌^◌, ◌∙◌, ◌≡◌, ◌≤◌}
use Rattle.std.proofs.Math.Seq.{take-append_seam, take-length}
use Rattle.waits.proofs.ByPid.{IsLeastAbove, NoneAbove}
use Rattle.unixmodel.specs.Process.{Process}
use Rattle.unixmodel.specs.Shown.{shown_process}
use Rattle.unixmodel.specs.State.{State}
use Rattle.waits.proofs.ByPid.{end, front, next}
use Rattle.waits.specs.declared.listing.Waiter.{Waiter}
use Rattle.waits.specs.Pids.{by_pid, listed}
use Rattle.waits.specs.Waits.{waiter_of, waiters}

-- who is not there doesn't wait
not-there : (s : State) (pid : ℕ) (p : Option Process) → shown_process s pid ≡ p → is_some p ≡ false
    → waiter_of s pid ≡ None
not-there s pid None is e = rw is refl
not-there s pid (Some p) is e = absurd (cc)

gone : (s : State) (pid : ℕ) → is_some (shown_process s pid) ≡ false → waiter_of s pid ≡ None
gone s pid e = not-there s pid (shown_process s pid) refl e

module _ (s : State) (last : ℕ) (found : List Waiter) (so_far : found ≡ by_pid (waiter_of s) last) where
  -- what there is of the next process comes after what was found
  pub found-more : (pid : ℕ) → IsLeastAbove (λ pid. is_some (shown_process s pid)) last pid
      → found ++ listed (waiter_of s pid) ≡ by_pid (waiter_of s) pid
  found-more pid least =
      ap (λ xs. xs ++ listed (waiter_of s pid)) so_far
      ∙ sym (next (waiter_of s) (λ pid. is_some (shown_process s pid)) (gone s) last pid least)

  -- they are the first ones
  pub found-first : last ≤ 2 ^ 32 - 1 → found ≡ take (length found) (waiters s)
  unfolding waiters
  found-first h =
      let (xs, e) = front (waiter_of s) last (2 ^ 32 - 1) h in
      sym (ap (take (length found)) (e ∙ ap (λ ys. ys ++ xs) (sym so_far)) ∙ take-append_seam found xs)

  -- where there are no more processes they are all
  pub found-all : last ≤ 2 ^ 32 - 1 → NoneAbove (λ pid. is_some (shown_process s pid)) last → found ≡ waiters s
  unfolding waiters
  found-all h none =
      so_far
      ∙ sym (end (waiter_of s) (λ pid. is_some (shown_process s pid)) (gone s) last (2 ^ 32 - 1) h none)

pub all-first : (xs ys : List Waiter) → xs ≡ ys → xs ≡ take (length xs) ys
all-first xs ys e = rw (← e) (sym (take-length xs))
