-- What instructions of the process that runs leave of all others.
use Rattle.std.proofs.Common.{Bool, Err, None, Ok, Option, Some, ap, arith, false, option_and_then, option_map}
use Rattle.std.proofs.Common.{refl, replicate, subst, suc, sym, true, zero, ℕ, ◌<◌, ◌∙◌, ◌≡◌}
use Rattle.std.proofs.lemmas.Bool.{eqb-true, false≢true}
use Rattle.std.proofs.lemmas.List.{get_or-set_other, get_or-set_same, length-set}
use Rattle.std.proofs.lemmas.List.Folds.{position_or_len-set}
use Rattle.std.proofs.lemmas.List.Quantifiers.{position-Some}
use Rattle.std.specs.Prelude.{◌==◌, ◌≢◌}
use Rattle.calls.specs.Computing.{after_steps, computes, computes_as, is_done}
use Rattle.kernel.specs.Idle.{running_pid}
use Rattle.timeline.specs.Line.{IsBeside}
use Rattle.unixmodel.specs.declared.event.Event.TheVariants.{Step}
use Rattle.unixmodel.specs.Files.{slot}
use Rattle.unixmodel.specs.Meaning.{Effect}
use Rattle.unixmodel.specs.Next.{acted, effect_of, execute, execute_at, next, process_after, step}
use Rattle.unixmodel.specs.Process.{Process, has_pid, is_running, is_running_mode}
use Rattle.unixmodel.specs.Run.{followed_by, run}
use Rattle.unixmodel.specs.Shown.{shown_process}
use Rattle.unixmodel.specs.State.{State, holds, place_of_pid, place_where, process_at, put_process, running}

pub beside-same : (s : State) → IsBeside s s
beside-same s = record { runs = refl; others = λ pid apart. refl }

pub beside-then : {s t u : State} → IsBeside s t → IsBeside t u → IsBeside s u
beside-then {s} {t} {u} first second = record {
  runs = second.runs ∙ first.runs;
  others = λ pid apart. second.others pid (λ is. apart (sym first.runs ∙ is)) ∙ first.others pid apart;
}

-- ---- the process that runs, in slot i, becomes another with its pid and its mode

module _ (s : State) (i : ℕ) (p q : Process) (runs : running s ≡ Some i) (here : process_at s i ≡ Some p)
    (pid : q.pid ≡ p.pid) (mode : q.mode ≡ p.mode) where
  same-place : (test : Process → Bool) → test q ≡ test p
      → place_where (put_process s i q) test ≡ place_where s test
  same-place test same =
      rw (
        position_or_len-set (holds test) s.places i (Some q) None (same ∙ sym (ap (holds test) here)),
        length-set s.places i (Some q),
      ) refl

  now : process_at (put_process s i q) i ≡ Some q
  now = get_or-set_same s.places i (Some q) None (position-Some (holds is_running) s.places i None runs).0

  was : running_pid s ≡ Some p.pid
  was =
      ap (λ o. option_map (λ (x : Process). x.pid) (option_and_then (process_at s) o)) runs
      ∙ ap (option_map (λ (x : Process). x.pid)) here

  runs-on : running_pid (put_process s i q) ≡ running_pid s
  runs-on =
      ap (λ o. option_map (λ (x : Process). x.pid) (option_and_then (process_at (put_process s i q)) o))
      (same-place is_running (ap is_running_mode mode) ∙ runs)
      ∙ ap (option_map (λ (x : Process). x.pid)) now ∙ ap Some pid ∙ sym was

  its-own : (n : ℕ) → holds (has_pid n) (slot s.places i) ≡ true → running_pid s ≡ Some n
  its-own n found = was ∙ ap Some (eqb-true p.pid n (sym (ap (holds (has_pid n)) here) ∙ found))

  elsewhere : (n : ℕ) → running_pid s ≢ Some n → (o : Option ℕ) → place_of_pid s n ≡ o
      → option_and_then (process_at (put_process s i q)) o ≡ option_and_then (process_at s) o
  elsewhere n apart None found = refl
  elsewhere n apart (Some j) found = get_or-set_other s.places i j (Some q) None (λ same. apart (its-own n
      (sym (ap (λ k. holds (has_pid n) (slot s.places k)) same)
      ∙ (position-Some (holds (has_pid n)) s.places j None found).1)))

  others-stay : (n : ℕ) → running_pid s ≢ Some n → shown_process (put_process s i q) n ≡ shown_process s n
  others-stay n apart =
      ap (option_and_then (process_at (put_process s i q))) (same-place (has_pid n) (ap (λ k. k == n) pid))
      ∙ elsewhere n apart (place_of_pid s n) refl

  put-beside : IsBeside s (put_process s i q)
  put-beside = record { runs = runs-on; others = others-stay }

-- ---- one instruction

record Stepped (s t : State) : Type 0 where
  beside : IsBeside s t
  halted : t.halted ≡ s.halted

went : (s : State) (i : ℕ) (p : Process) (e : Effect) → running s ≡ Some i → process_at s i ≡ Some p
    → is_done e ≡ true → Stepped s (acted s i p e).state
went s i p (Ok d) runs here done = record {
  beside = put-beside s i p (process_after p d) runs here refl refl;
  halted = refl;
}
went s i p (Err t) runs here done = absurd (false≢true done)

by-process : (s : State) (i : ℕ) (o : Option Process) → running s ≡ Some i → process_at s i ≡ o
    → computes_as o ≡ true → Stepped s (execute_at s i o).state
unfolding execute
by-process s i None runs here done = absurd (false≢true done)
by-process s i (Some p) runs here done = went s i p (effect_of p) runs here done

by-slot : (s : State) (o : Option ℕ) → running s ≡ o → computes_as (option_and_then (process_at s) o) ≡ true
    → Stepped s (step s o).state
by-slot s None runs done = absurd (false≢true done)
by-slot s (Some i) runs done = by-process s i (process_at s i) runs refl done

stepped : (s : State) → computes s ≡ true → Stepped s (next s Step).state
unfolding next
stepped s done = by-slot s (running s) refl done

-- ---- several

later : (s : State) (n : ℕ) → (next s Step).state.halted ≡ None
    → after_steps s (suc n) ≡ after_steps (next s Step).state n
unfolding run
later s n up = ap (λ o. (followed_by (next s Step) (λ t. run t (replicate n Step)) o).state) up

pub none-yet : (s : State) → after_steps s 0 ≡ s
unfolding run
none-yet s = refl

-- n instructions that are done
pub beside_steps : (k : ℕ) (s : State) → s.halted ≡ None
    → ((n : ℕ) → n < k → computes (after_steps s n) ≡ true) → IsBeside s (after_steps s k)
beside_steps zero s goes done = subst (IsBeside s) (sym (none-yet s)) (beside-same s)
beside_steps (suc k) s goes done =
    let one = stepped s (subst (λ t. computes t ≡ true) (none-yet s) (done 0 (omega arith))) in
    let up = one.halted ∙ goes in
    subst (IsBeside s) (sym (later s k up)) (beside-then one.beside
    (beside_steps k (next s Step).state up
    (λ n less. subst (λ t. computes t ≡ true) (later s n up) (done (suc n) (omega (arith, less))))))
