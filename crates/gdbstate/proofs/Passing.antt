-- Where a motion goes by: instructions pass except at breaks, steps and accesses, and while watched bytes stay.
use Rattle.std.proofs.Common.{Bool, Err, IfSome, List, None, Ok, Option, Some, [], ap, arith, false, is_some}
use Rattle.std.proofs.Common.{inl, inr, length, option_and_then, option_map, refl, slice_index, sym, true}
use Rattle.std.proofs.Common.{ℕ, ◌&&◌, ◌<◌, ◌∙◌, ◌∷◌, ◌||◌, ◌≡◌}
use Rattle.std.proofs.lemmas.Bool.{false≢true, or_from, or_parts}
use Rattle.std.proofs.lemmas.Bool.Decides.{nat_tests}
use Rattle.std.specs.List.{list_any}
use Rattle.calls.specs.Computing.{computes, computes_as, is_done, stands_at}
use Rattle.next_fault.specs.Causes.{memory_of, memory_shown, trap_of, trap_shown}
use Rattle.gdbstate.specs.Accesses.{access_at}
use Rattle.gdbstate.specs.declared.reasons.Reasons.{Reasons}
use Rattle.gdbstate.specs.declared.reasons.Stepping.{Stepping}
use Rattle.gdbstate.specs.declared.watches.Watched.{Watched}
use Rattle.gdbstate.specs.declared.watches.Width.{Width}
use Rattle.gdbstate.specs.Passing.{PassesWhoRuns, has_near, stops_within, stops_within_pid, stops_within_seen}
use Rattle.gdbstate.specs.Stops.{break_at, calls_as, changed, faults, has_access, has_break}
use Rattle.gdbstate.specs.Watches.{is_same_pid, near_watch, number_on, number_shown, same_number, watch_changed}
use Rattle.gdbstate.specs.Stops.{is_ecall, is_stepped, stops, stops_pid, stops_seen}
use Rattle.gdbstate.specs.Stops.{stops_who_runs, word_in}
use Rattle.hart.specs.Stops.{is_stop}
use Rattle.kernel.specs.Idle.{running_pid, running_process}
use Rattle.machine.specs.declared.seen.Seen.{Seen}
use Rattle.machine.specs.Seen.{seen_of}
use Rattle.std.specs.Prelude.{not, slice_get, ◌==◌, ◌/◌}
use Rattle.timeline.specs.Line.{IsBeside, Passes, StopsOnlyAt}
use Rattle.unixmodel.specs.Cycle.{act_word, cycle, fetched}
use Rattle.unixmodel.specs.declared.instr.Instr.{Instr}
use Rattle.unixmodel.specs.declared.instr.Instr.TheVariants.{Ecall}
use Rattle.unixmodel.specs.declared.trap.Access.TheVariants.{Fetch}
use Rattle.unixmodel.specs.Meaning.{Effect, act}
use Rattle.unixmodel.specs.Memory.{Memory, Page, bytes_at, page_for}
use Rattle.unixmodel.specs.Next.{effect_of}
use Rattle.unixmodel.specs.Numbers.{number}
use Rattle.unixmodel.specs.Process.{Process}
use Rattle.unixmodel.specs.Shown.{shown_process, told_page}
use Rattle.unixmodel.specs.State.{State}
use Rattle.unixmodel.specs.Words.{instruction_of}

no-call : (i : Option Instr) (regs : List ℕ) (pc : ℕ) (memory : Memory)
    → is_done (act_word i regs pc memory) ≡ true → calls_as i ≡ false
unfolding act
no-call (Some Ecall) regs pc memory done = absurd (false≢true done)
no-call _ regs pc memory done = refl

quiet-word : (p : Process) → is_done (effect_of p) ≡ true → is_ecall (word_in p.memory p.pc) ≡ false
unfolding effect_of cycle
quiet-word p done = go (page_for Fetch p.memory p.pc) done where
  go : (found : Option Page) → is_done (fetched found p.registers p.pc p.memory) ≡ true
      → is_ecall (option_map (λ page. number (bytes_at 4 p.pc page)) found) ≡ false
  go None done = refl
  go (Some page) done = no-call (instruction_of (number (bytes_at 4 p.pc page))) p.registers p.pc p.memory done

no-fault : (e : Effect) → is_done e ≡ true → is_some (trap_of e) ≡ false
no-fault (Ok d) done = refl
no-fault (Err t) done = absurd (false≢true done)

-- ---- where a process computes whose pc is at no break, nothing ends a motion

-- what a motion looks at where an instruction is done: breaks, steps, loads and stores
passing : (r : Reasons) (s : State) (p : Process) → stops_within r s (seen_of p) ≡ false
    → is_done (effect_of p) ≡ true → shown_process s p.pid ≡ Some p → stops_pid r s (Some p.pid) ≡ false
passing r s p within done shown =
    let at : memory_shown s p.pid ≡ p.memory = ap memory_of shown in
    let quiet : is_ecall (word_in (memory_shown s p.pid) p.pc) ≡ false =
    ap (λ m. is_ecall (word_in m p.pc)) at ∙ quiet-word p done in
    let sound : is_some (option_and_then trap_shown (shown_process s p.pid)) ≡ false =
    ap (λ o. is_some (option_and_then trap_shown o)) shown ∙ no-fault (effect_of p) done in
    ap (λ o. stops_seen r s (option_map seen_of o)) shown
    ∙ ap (λ b. has_break r p.pid p.pc || is_stepped r.stepping p.pid p.pc
    || (is_stop r.calls.items (slice_index p.registers 17) && b) || faults r.at_faults s p.pid
    || has_access r s p.pid) quiet
    ∙ ap (λ b. has_break r p.pid p.pc || is_stepped r.stepping p.pid p.pc
    || (is_stop r.calls.items (slice_index p.registers 17) && false) || (r.at_faults && b)
    || has_access r s p.pid) sound
    ∙ left (has_break r p.pid p.pc) (is_stepped r.stepping p.pid p.pc)
    (is_stop r.calls.items (slice_index p.registers 17)) r.at_faults (has_access r s p.pid) within where
      by : (a b e : Bool) → (a || b || e) ≡ false → (a || b || false || false || e) ≡ false
      by true b e none = none
      by false true e none = none
      by false false e none = none

      left : (a b c d e : Bool) → (a || b || e) ≡ false → (a || b || (c && false) || (d && false) || e) ≡ false
      left a b true true e none = by a b e none
      left a b true false e none = by a b e none
      left a b false true e none = by a b e none
      left a b false false e none = by a b e none

-- where the process that runs does an instruction, and is at no break, step, load or store, nothing ends a motion
passes-who : (r : Reasons) (s : State) (o : Option Process) → running_process s ≡ o → computes_as o ≡ true
    → ((p : Process) → running_process s ≡ Some p → shown_process s p.pid ≡ Some p
    → stops_within r s (seen_of p) ≡ false)
    → IfSome (option_map (λ (q : Process). q.pid) o) (λ pid. shown_process s pid ≡ o)
    → stops_who_runs r s ≡ false
passes-who r s None is computes quiet shown = absurd (false≢true computes)
passes-who r s (Some p) is computes quiet shown =
    ap (λ o. stops_pid r s (option_map (λ (q : Process). q.pid) o)) is
    ∙ passing r s p (quiet p is shown) computes shown

-- ---- bytes of processes that do not run

same-shown : (from s : State) (pid address : ℕ) (width : Width) → shown_process s pid ≡ shown_process from pid
    → number_shown s pid address width ≡ number_shown from pid address width
unfolding number_shown
same-shown from s pid address width same =
    ap (λ o. number_on address width (option_and_then (λ (p : Process). option_map told_page
    (slice_get p.memory (address / 4096))) o)) same

eq-self : (n : ℕ) → (n == n) ≡ true
eq-self n = grind (arith, nat_tests)

pid-runs : (o : Option ℕ) (pid : ℕ) → is_same_pid o pid ≡ false → o ≡ Some pid → ⊥
pid-runs None pid other is = absurd cc
pid-runs (Some n) pid other is =
    false≢true (sym other ∙ ap (λ o. is_same_pid o pid) is ∙ eq-self pid)

-- bytes of processes that do not run, as they were, stay as they were
apart : (from s : State) (ws : List Watched) → IsBeside from s
    → list_any (near_watch from (running_pid from)) ws ≡ false → list_any (watch_changed s) ws ≡ false
apart from s [] beside far = refl
apart from s (w ∷ ws) beside far =
    let parts = or_parts _ _ far in
    let here = or_parts _ _ parts.0 in
    let same : watch_changed s w ≡ watch_changed from w =
    ap (λ b. not (same_number b w.value)) (same-shown from s w.pid w.address w.width
    (beside.others w.pid (pid-runs (running_pid from) w.pid here.0))) in
    or_from _ _ (same ∙ here.1) (apart from s ws beside parts.1)

-- no break, no step and no load or store is where a process is
none-within : (r : Reasons) (s : State) (seen : Seen) → is_stop r.addresses.items seen.pc ≡ false
    → r.stepping ≡ None → r.accesses.items ≡ [] → stops_within r s seen ≡ false
none-within r s seen elsewhere none untouched =
    ap (λ b. (b && list_any (break_at seen.pid seen.pc) r.breaks.items) || is_stepped r.stepping seen.pid seen.pc
    || has_access r s seen.pid) elsewhere
    ∙ ap (λ o. is_stepped o seen.pid seen.pc || has_access r s seen.pid) none
    ∙ ap (λ ws. list_any (access_at s seen.pid) ws) untouched

no-step : (o : Option Stepping) → is_some o ≡ false → o ≡ None
no-step None none = refl
no-step (Some step) none = absurd (false≢true (sym none))

pub empty-of : {X : Type 0} (xs : List X) → length xs < 1 → xs ≡ []
empty-of [] less = refl
empty-of (x ∷ xs) less = absurd (omega (arith, less))

-- where nothing is at hand
pub passes-here : (r : Reasons) (s : State) → changed r s ≡ false → PassesWhoRuns r s → computes s ≡ true
    → Passes (stops r) s
unfolding stops
passes-here r s same who done shown =
    or_from _ _ same (passes-who r s (running_process s) refl done (λ p is here. within who p is here) shown) where
      within : PassesWhoRuns r s → (p : Process) → running_process s ≡ Some p → shown_process s p.pid ≡ Some p
          → stops_within r s (seen_of p) ≡ false
      within (inl bare) p is here =
          none-within r s (seen_of p) (ap (λ xs. is_stop xs p.pc) bare.addresses) bare.stepping bare.accesses
      within (inr quiet) p is here =
          sym (ap (λ o. stops_within_seen r s (option_map seen_of o)) here)
          ∙ sym (ap (λ o. stops_within_pid r s (option_map (λ (q : Process). q.pid) o)) is) ∙ quiet

-- where the watched bytes are as they were, and of processes that do not run
pub stops-only : (r : Reasons) (from : State) (addresses : List ℕ) → addresses ≡ r.addresses.items
    → is_some r.stepping ≡ false → has_near r from ≡ false → r.accesses.items ≡ []
    → StopsOnlyAt (stops r) from addresses
unfolding stops
stops-only r from addresses same none far untouched s beside done elsewhere shown =
    or_from _ _ (apart from s r.watched.items beside far)
    (passes-who r s (running_process s) refl done (λ p is here. none-within r s (seen_of p)
    (sym (ap (λ list. is_stop list p.pc) same) ∙ sym (ap (stands_at addresses) is) ∙ elsewhere)
    (no-step r.stepping none) untouched) shown)

-- the same of addresses that may be there
pub stops-only-at : {X : Type 0} (r : Reasons) (from : State) (places : Option X) (now : X → List ℕ)
    → IfSome places (λ x. (now x ≡ r.addresses.items) × (r.accesses.items ≡ [])) → is_some r.stepping ≡ false
    → has_near r from ≡ false → IfSome places (λ x. StopsOnlyAt (stops r) from (now x))
stops-only-at r from None now are none far = tt
stops-only-at r from (Some x) now are none far = stops-only r from (now x) are.0 none far are.1
