-- What a process computes, of what it holds.
use Rattle.std.proofs.Common.{[], ap, Err, length, List, None, Ok, Option, refl, Some, suc, sym, true, zero}
use Rattle.std.proofs.Common.{ℕ, ℤ, ◌+◌, ◌-◌, ◌/◌, ◌%◌, ◌∙◌, ◌∷◌, ◌≡◌}
use Rattle.std.proofs.lemmas.List.{length-append, take-append-drop}
use Rattle.std.proofs.lemmas.List.Quantifiers.{position-Some}
use Rattle.std.specs.Prelude.{drop, option_map, slice_set, take}
use Rattle.schedules.proofs.Holding.{followed-change, nobody-looks}
use Rattle.schedules.proofs.Steps.{tick-passes-all}
use Rattle.schedules.proofs.Ticks.{tick-interrupts, written-at}
use Rattle.schedules.specs.Holding.{Held, KeepsPages, NeverActs, StepsMayWait, after_change, held, holding, reworked}
use Rattle.schedules.specs.Schedules.{computed, computed_for, done_by}
use Rattle.unixmodel.specs.Calls.{After, quiet}
use Rattle.unixmodel.specs.Cycle.{cycle}
use Rattle.unixmodel.specs.Meaning.{Change, Effect}
use Rattle.unixmodel.specs.Meaning.Change.{Bytes, Nothing}
use Rattle.unixmodel.specs.Memory.{Memory, Page, write_bytes, write_from}
use Rattle.unixmodel.specs.Next.{effect_of, memory_after, next}
use Rattle.unixmodel.specs.Process.{Process, is_running, with_mode}
use Rattle.unixmodel.specs.Run.{UnlessHalted, followed_by, run}
use Rattle.unixmodel.specs.State.{State, change_process, holds, process_at, running}
use Rattle.unixmodel.specs.declared.event.Event.TheVariants.{Tick}
use Rattle.unixmodel.specs.declared.process.Mode.TheVariants.{Ready}

-- ---- pages stay as many

length-write-from : (ps : List Page) (at : ℕ) (new : List ℕ) → length (write_from ps at new) ≡ length ps
length-write-from [] at new = refl
length-write-from (p ∷ ps) at [] = refl
length-write-from (p ∷ ps) at (b ∷ bs) = ap (λ n. suc n) (length-write-from ps 0 (drop (4096 - at) (b ∷ bs)))

length-write : (mem : Memory) (at : ℕ) (new : List ℕ) → length (write_bytes mem at new) ≡ length mem
unfolding write_bytes
length-write mem at new =
    let k = at / 4096 in
    length-append (take k mem) (write_from (drop k mem) (at % 4096) new)
    ∙ ap (λ n. length (take k mem) + n) (length-write-from (drop k mem) (at % 4096) new)
    ∙ sym (length-append (take k mem) (drop k mem))
    ∙ ap (λ (ps : List Page). length ps) (take-append-drop k mem)

length-after : (mem : Memory) (change : Change) → length (memory_after mem change) ≡ length mem
length-after mem Nothing = refl
length-after mem (Bytes at bytes) = length-write mem at bytes

-- ---- instructions

abbrev held_by : Held → Effect → Held
held_by h (Ok d) = record { registers = d.regs; pc = d.pc; memory = memory_after h.memory d.change }
held_by h (Err t) = h

abbrev pub effect_on : Held → Effect
effect_on h = cycle h.registers h.pc h.memory

-- what is held after an instruction, and after n
unfoldable pub held_next : Held → Held
held_next h = held_by h (effect_on h)

unfoldable pub held_for : ℕ → Held → Held
held_for zero h = h
held_for (suc n) h = held_for n (held_next h)

by-pages : (h : Held) (d : Effect) → length (held_by h d).memory ≡ length h.memory
by-pages h (Ok d) = length-after h.memory d.change
by-pages h (Err t) = refl

pub for-pages : (n : ℕ) → KeepsPages (held_for n)
unfolding held_for held_next
for-pages zero h = refl
for-pages (suc n) h = for-pages n (held_next h) ∙ by-pages h (effect_on h)

by-held : (p : Process) (d : Effect) → done_by p d ≡ holding (held_by (held p) d) p
by-held p (Ok d) = refl
by-held p (Err t) = refl

pub computed-holds : (p : Process) → computed p ≡ reworked held_next p
unfolding computed effect_of held_next
computed-holds p = by-held p (effect_of p)

pub computed-for-holds : (n : ℕ) (p : Process) → computed_for n p ≡ reworked (held_for n) p
unfolding computed_for held_for
computed-for-holds zero p = refl
computed-for-holds (suc n) p =
    computed-for-holds n (computed p) ∙ ap (λ q. reworked (held_for n) q) (computed-holds p)

-- ---- a process that has computed

option-same : (f g : Process → Process) → ((p : Process) → f p ≡ g p) → (o : Option Process)
    → option_map f o ≡ option_map g o
option-same f g same None = refl
option-same f g same (Some p) = ap Some (same p)

-- the same change of a process
pub change-same : (f g : Process → Process) → ((p : Process) → f p ≡ g p) → (s : State) (i : ℕ)
    → change_process s i f ≡ change_process s i g
change-same f g same s i = ap (λ (o : Option Process). record s { places = slice_set s.places i o })
    (option-same f g same (process_at s i))

-- the process that runs
holder : (o : Option Process) → holds is_running o ≡ true → (p : Process) × (o ≡ Some p) × (is_running p ≡ true)
holder None runs = absurd cc
holder (Some p) runs = (p, refl, runs)

pub runner : (s : State) (i : ℕ) → running s ≡ Some i
    → (p : Process) × (process_at s i ≡ Some p) × (is_running p ≡ true)
runner s i runs = holder (process_at s i) (position-Some (holds is_running) s.places i None runs).1

pub ready-after : (s : State) (i : ℕ) (p : Process) → running s ≡ Some i → process_at s i ≡ Some p
    → process_at (next s Tick).state i ≡ Some (with_mode Ready p)
unfolding next
ready-after s i p runs at =
    ap (λ t. process_at t i) (tick-interrupts s i p runs at) ∙ written-at s.places i p (with_mode Ready p) at

unless-halted : (t : State) (Rest : State → Type 0) (h : Option ℤ) → Rest t → UnlessHalted t Rest h
unless-halted t Rest (Some status) rest = tt
unless-halted t Rest None rest = rest

quiet-tick : (s : State) → next s Tick ≡ quiet (next s Tick).state
unfolding next
quiet-tick s = refl

pub steps-may-wait : StepsMayWait
unfolding run
steps-may-wait n s i events runs all never =
    let f = reworked (held_for n) in
    let a = next s Tick in
    let here = runner s i runs in
    let same : (t : State) → change_process t i (computed_for n) ≡ change_process t i f =
    λ t. change-same (computed_for n) f (computed-for-holds n) t i in
    ap (λ (b : After). followed_by b (λ u. run u events) b.state.halted)
    (tick-passes-all n s i runs all ∙ ap quiet (same a.state)
    ∙ sym (ap (after_change i f) (quiet-tick s)))
    ∙ followed-change i f a (λ u. run u events) (λ u. NeverActs i u events) a.state.halted
    (unless-halted a.state (λ u. NeverActs i u events) a.state.halted never)
    (λ later. nobody-looks a.state i (with_mode Ready here.0) events (held_for n) (for-pages n)
    (ready-after s i here.0 runs here.1) later)
    ∙ sym (ap (λ (t : State). record (run s (Tick ∷ events)) { state = t })
    (same (run s (Tick ∷ events)).state))
