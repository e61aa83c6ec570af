-- An event in which a process doesn't act doesn't look at what the process holds.
use Rattle.std.proofs.Common.{[], ap, List, None, Option, refl, Some, subst, suc, sym}
use Rattle.std.proofs.Common.{true}
use Rattle.std.proofs.Common.{zero, ℕ, ℤ, ◌%◌, ◌+◌, ◌^◌, ◌∙◌, ◌∷◌, ◌≡◌, ◌≢◌}
use Rattle.std.specs.Prelude.{is_some, option_map}
use Rattle.schedules.proofs.Going.{SeenAfter}
use Rattle.schedules.proofs.Steps.{changed}
use Rattle.schedules.proofs.Turns.{key-in, runs-in, step-in, stopped-in}
use Rattle.schedules.proofs.Views.{IsFair, View, map_at, mode_in, process_in, state_in}
use Rattle.schedules.specs.Holding.{Held, KeepsPages, NeverActs, NobodyLooks, OthersDoNotLook, acting, after_change}
use Rattle.schedules.specs.Holding.{held}
use Rattle.schedules.specs.Holding.{holding, reworked}
use Rattle.unixmodel.specs.Calls.{After, quiet}
use Rattle.unixmodel.specs.Console.{key}
use Rattle.unixmodel.specs.Files.{slot}
use Rattle.unixmodel.specs.Next.{next, step, stopped, tick}
use Rattle.unixmodel.specs.Process.{Process}
use Rattle.unixmodel.specs.Run.{UnlessHalted, after_bytes, followed_by, run}
use Rattle.unixmodel.specs.State.{State, change_process, process_at, running}
use Rattle.unixmodel.specs.declared.event.Event.{Event}
use Rattle.unixmodel.specs.declared.event.Event.TheVariants.{Key, Step, Tick}
use Rattle.unixmodel.specs.declared.process.Mode.{Mode}
use Rattle.unixmodel.specs.declared.process.Mode.TheVariants.{Ready, Running, Waiting, Zombie}

-- ---- what processes hold is changed

-- the state in which the process in each slot holds what a change makes of it
unfoldable pub reworked_all : (ℕ → Held → Held) → State → State
reworked_all change s = record s { places = map_at (λ n. reworked (change n)) s.places }

-- its view: the clock is the same
abbrev pub holding_else : ℕ → (ℕ → Held → Held) → View
holding_else now change = record { now = now; clock = now; since = λ number args since. since; held = change }

-- each change leaves as many pages
abbrev pub AllKeepPages : (ℕ → Held → Held) → Type 0
AllKeepPages change = (n : ℕ) → KeepsPages (change n)

fair : (now : ℕ) (change : ℕ → Held → Held) → AllKeepPages change → IsFair (holding_else now change)
fair now change pages = record { pages = pages; begins = λ number args. refl; slept = λ w sleeps. refl }

mode-else : (now : ℕ) (change : ℕ → Held → Held) (m : Mode) → mode_in (holding_else now change) m ≡ m
mode-else now change Running = refl
mode-else now change Ready = refl
mode-else now change (Waiting w) = refl
mode-else now change (Zombie status) = refl

-- the same is made of all processes that are there
pub map-same : (f g : ℕ → Process → Process) (ps : List (Option Process))
    → ((n : ℕ) (p : Process) → slot ps n ≡ Some p → f n p ≡ g n p) → map_at f ps ≡ map_at g ps
map-same f g [] same = refl
map-same f g (None ∷ ps) same =
    ap (λ qs. None ∷ qs) (map-same (λ n. f (suc n)) (λ n. g (suc n)) ps (λ n p at. same (suc n) p at))
map-same f g (Some p ∷ ps) same =
    ap (λ q. Some q ∷ map_at (λ n. f (suc n)) ps) (same 0 p refl)
    ∙ ap (λ qs. Some (g 0 p) ∷ qs) (map-same (λ n. f (suc n)) (λ n. g (suc n)) ps (λ n p at. same (suc n) p at))

view-is : (now : ℕ) (change : ℕ → Held → Held) (s : State) → s.ticks ≡ now
    → state_in (holding_else now change) s ≡ reworked_all change s
unfolding state_in reworked_all
view-is now change s time =
    ap (λ (ps : List (Option Process)). record s { places = ps; ticks = now })
    (map-same (process_in (holding_else now change)) (λ n. reworked (change n)) s.places
    (λ n p at. ap (λ m. holding (change n (held p)) (record p { mode = m })) (mode-else now change p.mode)))
    ∙ ap (λ n. record (reworked_all change s) { ticks = n }) (sym time)

pub runs-else : (change : ℕ → Held → Held) (s : State) → running (reworked_all change s) ≡ running s
runs-else change s =
    ap (λ t. running t) (sym (view-is s.ticks change s refl)) ∙ runs-in (holding_else s.ticks change) s

-- ---- an event

-- what follows of a state in which processes hold something else
abbrev pub after_all : (ℕ → Held → Held) → After → After
after_all change a = record { state = reworked_all change a.state; bytes = a.bytes }

after-is : (a b : After) → a.state ≡ b.state → a.bytes ≡ b.bytes → a ≡ b
after-is a b state bytes =
    ap (λ (s : State). record a { state = s }) state ∙ ap (λ (bs : List ℕ). record b { bytes = bs }) bytes

-- after an event that leaves the clock
seen-else : (now : ℕ) (change : ℕ → Held → Held) (a b : After) → SeenAfter (holding_else now change) a b
    → b ≡ after_all change a
seen-else now change a b seen =
    after-is b (after_all change a) (seen.state.is ∙ view-is now change a.state seen.state.time) seen.bytes

-- the process in this slot holds what it held
abbrev pub Unchanged : (ℕ → Held → Held) → ℕ → Type 0
Unchanged change n = (h : Held) → change n h ≡ h

-- whoever acts holds what it held, and so does whoever comes into a slot that is free
pub record IsAside (change : ℕ → Held → Held) (s : State) (acts : Option ℕ) : Type 0 where
  pub pages : AllKeepPages change
  pub acting : (n : ℕ) → acts ≡ Some n → Unchanged change n
  pub free : (n : ℕ) → process_at s n ≡ None → Unchanged change n

step-else : (change : ℕ → Held → Held) (s : State) → IsAside change s (acting s Step)
    → SeenAfter (holding_else s.ticks change) (step s (running s))
    (step (state_in (holding_else s.ticks change) s) (running (state_in (holding_else s.ticks change) s)))
unfolding acting
step-else change s aside =
    let v = holding_else s.ticks change in
    subst (λ o. SeenAfter v (step s (running s)) (step (state_in v s) o)) (sym (runs-in v s))
    (step-in v s (running s) (fair s.ticks change aside.pages) refl
    (λ n acts. record { is = aside.acting n acts })
    (record { free = λ n free. record { is = aside.free n free } })
    (λ asked. refl))

stopped-time : (s : State) (o : Option ℕ) → (stopped s o).ticks ≡ s.ticks
stopped-time s None = refl
stopped-time s (Some j) = refl

tick-else : (change : ℕ → Held → Held) (s : State)
    → tick (state_in (holding_else s.ticks change) s) ≡ reworked_all change (tick s)
unfolding state_in reworked_all
tick-else change s =
    let v = holding_else s.ticks change in
    let c = (s.ticks + 1) % 2 ^ 32 in
    ap (λ o. record (stopped (state_in v s) o) { ticks = c }) (runs-in v s)
    ∙ ap (λ (t : State). record t { ticks = c })
    (stopped-in v s (running s) refl
    ∙ view-is s.ticks change (stopped s (running s)) (stopped-time s (running s)))

event-seen : (change : ℕ → Held → Held) (s : State) (e : Event) → IsAside change s (acting s e)
    → next (state_in (holding_else s.ticks change) s) e ≡ after_all change (next s e)
unfolding next state_in
event-seen change s Step aside = seen-else s.ticks change (step s (running s)) _ (step-else change s aside)
event-seen change s Tick aside = ap quiet (tick-else change s)
event-seen change s (Key k) aside =
    seen-else s.ticks change _ _ (key-in (holding_else s.ticks change) s (key s.console k) refl)

-- who acts sees the same, whatever the others hold
pub event-else : (change : ℕ → Held → Held) (s : State) (e : Event) → IsAside change s (acting s e)
    → next (reworked_all change s) e ≡ after_all change (next s e)
event-else change s e aside =
    ap (λ t. next t e) (sym (view-is s.ticks change s refl)) ∙ event-seen change s e aside

-- ---- one process holds something else

-- a change in slot i alone
unfoldable at_slot : ℕ → (Held → Held) → ℕ → Held → Held
at_slot zero change zero h = change h
at_slot zero change (suc n) h = h
at_slot (suc i) change zero h = h
at_slot (suc i) change (suc n) h = at_slot i change n h

kept-pages : (i : ℕ) (change : Held → Held) → KeepsPages change → AllKeepPages (at_slot i change)
unfolding at_slot
kept-pages zero change pages zero h = pages h
kept-pages zero change pages (suc n) h = refl
kept-pages (suc i) change pages zero h = refl
kept-pages (suc i) change pages (suc n) h = kept-pages i change pages n h

elsewhere : (i : ℕ) (change : Held → Held) (n : ℕ) → n ≢ i → Unchanged (at_slot i change) n
unfolding at_slot
elsewhere zero change zero apart h = absurd (apart refl)
elsewhere zero change (suc n) apart h = refl
elsewhere (suc i) change zero apart h = refl
elsewhere (suc i) change (suc n) apart h = elsewhere i change n (λ e. apart (ap suc e)) h

option-self : (o : Option Process) → option_map (λ (p : Process). p) o ≡ o
option-self None = refl
option-self (Some p) = refl

map-self : (ps : List (Option Process)) → map_at (λ n p. p) ps ≡ ps
map-self [] = refl
map-self (o ∷ ps) = ap (λ u. u ∷ map_at (λ n p. p) ps) (option-self o) ∙ ap (λ qs. o ∷ qs) (map-self ps)

map-one : (i : ℕ) (change : Held → Held) (ps : List (Option Process))
    → map_at (λ n. reworked (at_slot i change n)) ps ≡ changed (reworked change) i ps
unfolding at_slot
map-one i change [] = refl
map-one zero change (o ∷ ps) = ap (λ qs. option_map (reworked change) o ∷ qs) (map-self ps)
map-one (suc i) change (o ∷ ps) =
    ap (λ u. u ∷ map_at (λ n. reworked (at_slot i change n)) ps) (option-self o)
    ∙ ap (λ qs. o ∷ qs) (map-one i change ps)

one-is : (i : ℕ) (change : Held → Held) (s : State)
    → reworked_all (at_slot i change) s ≡ change_process s i (reworked change)
unfolding reworked_all
one-is i change s = ap (λ (ps : List (Option Process)). record s { places = ps }) (map-one i change s.places)

one-aside : (i : ℕ) (change : Held → Held) (s : State) (p : Process) (o : Option ℕ) → KeepsPages change
    → process_at s i ≡ Some p → o ≢ Some i → IsAside (at_slot i change) s o
one-aside i change s p o pages at apart = record {
  pages = kept-pages i change pages;
  acting = λ n acts. elsewhere i change n (λ e. apart (acts ∙ ap Some e));
  free = λ n free. elsewhere i change n
      (λ e. absurd (let both : None ≡ Some p = sym free ∙ ap (λ k. process_at s k) e ∙ at in cc));
}

pub others-do-not-look : OthersDoNotLook
others-do-not-look s i p e change pages at apart =
    ap (λ t. next t e) (sym (one-is i change s))
    ∙ event-else (at_slot i change) s e (one-aside i change s p (acting s e) pages at apart)
    ∙ ap (λ (t : State). record (next s e) { state = t }) (one-is i change (next s e).state)

-- ---- a run

taken-by : (o : Option Process) → is_some o ≡ true → (q : Process) × (o ≡ Some q)
taken-by None taken = absurd cc
taken-by (Some q) taken = (q, refl)

pub followed-change : (i : ℕ) (f : Process → Process) (a : After) (rest : State → After) (Rest : State → Type 0)
    (h : Option ℤ) → UnlessHalted a.state Rest h
    → (Rest a.state → rest (change_process a.state i f) ≡ after_change i f (rest a.state))
    → followed_by (after_change i f a) rest h ≡ after_change i f (followed_by a rest h)
followed-change i f a rest Rest (Some status) later more = refl
followed-change i f a rest Rest None later more = ap (after_bytes a.bytes) (more later)

pub nobody-looks : NobodyLooks
unfolding run NeverActs
nobody-looks s i p [] change pages at never = refl
nobody-looks s i p (e ∷ events) change pages at never =
    let t = (next s e).state in
    let there = taken-by (process_at t i) never.1 in
    ap (λ (a : After). followed_by a (λ u. run u events) a.state.halted)
    (others-do-not-look s i p e change pages at never.0)
    ∙ followed-change i (reworked change) (next s e) (λ u. run u events) (λ u. NeverActs i u events) t.halted never.2
    (λ later. nobody-looks t i there.0 events change pages there.1 later)
