-- States that are alike but late go on alike, and a late tick leads to such a state.
use Rattle.std.proofs.Common.{[], ap, arith, false, None, Option, refl, Some, subst, sym, ℕ, ℤ, ◌+◌, ◌++◌, ◌<◌}
use Rattle.std.proofs.Common.{◌^◌, ◌∙◌, ◌∷◌, ◌≡◌, ◌≤◌}
use Rattle.lateness.proofs.Lasting.{event-clock, event-sleeps, within-more}
use Rattle.lateness.proofs.Settling.{Settles, key-settles, late-settles, settled-alike, settled-asks, settled-clock}
use Rattle.lateness.proofs.Settling.{settled-files, settled-halted, step-settles, tick-settles}
use Rattle.lateness.specs.Late.{AlikeButLate, AreLateAlike, EventKeepsLateAlike, GoLateAlike, LateTickChangesNothing}
use Rattle.lateness.specs.Late.{LateTickNeverShows, RunKeepsLateAlike, state_settled, ticks_in, ticks_of}
use Rattle.schedules.proofs.Alike.{event-alike}
use Rattle.schedules.specs.Alike.{AreAlike, NeverAsksTime, asks_time, state_set_back, timeless}
use Rattle.unixmodel.specs.Calls.{After, quiet}
use Rattle.unixmodel.specs.Next.{next}
use Rattle.unixmodel.specs.Run.{UnlessHalted, after_bytes, followed_by, run}
use Rattle.unixmodel.specs.State.{State}
use Rattle.unixmodel.specs.declared.event.Event.{Event}
use Rattle.unixmodel.specs.declared.event.Event.TheVariants.{Key, Step, Tick}

-- ---- events

-- the same is printed, and the states are alike but late
record GoAlike (a b : After) : Type 0 where
  bytes : a.bytes ≡ b.bytes
  alike : AlikeButLate a.state b.state

settles-alike : (a b c d : After) → Settles a b → Settles c d → AreAlike b d → GoAlike a c
settles-alike a b c d one two both = record {
  bytes = one.bytes ∙ both.bytes ∙ sym two.bytes;
  alike = ap timeless one.state ∙ both.alike ∙ sym (ap timeless two.state);
}

module _ (n : ℕ) (s t : State) (h : AreLateAlike n s t) where
  settled-both : (e : Event) → asks_time s e ≡ false → AreAlike (next (state_settled s) e) (next (state_settled t) e)
  settled-both e quiet = event-alike (state_settled s) (state_settled t) e (settled-clock s h.first)
      (settled-clock t h.second) h.alike (settled-asks s e ∙ quiet)

  tick-goes : n + 1 < 2 ^ 32 → GoAlike (next s Tick) (next t Tick)
  unfolding next asks_time
  tick-goes short = record {
    bytes = refl;
    alike = sym (ap timeless (tick-settles n s short h.within))
        ∙ settled-alike (next (state_settled s) Tick).state (next (state_settled t) Tick).state
        (settled-both Tick refl).alike
        ∙ ap timeless (tick-settles n t short h.other_within);
  }

  goes : (e : Event) → n + ticks_of e < 2 ^ 32 → asks_time s e ≡ false → GoAlike (next s e) (next t e)
  goes Step short quiet = settles-alike (next s Step) (next (state_settled s) Step) (next t Step)
      (next (state_settled t) Step) (step-settles s h.first) (step-settles t h.second) (settled-both Step quiet)
  goes Tick short quiet = tick-goes short
  goes (Key b) short quiet = settles-alike (next s (Key b)) (next (state_settled s) (Key b)) (next t (Key b))
      (next (state_settled t) (Key b)) (key-settles s b) (key-settles t b) (settled-both (Key b) quiet)

pub event-late : EventKeepsLateAlike
event-late n s t e h short quiet =
    let both = goes n s t h e short quiet in
    record {
      bytes = both.bytes;
      states = record {
        alike = both.alike;
        first = event-clock s e h.first;
        second = event-clock t e h.second;
        within = event-sleeps n s e h.first h.within short;
        other_within = event-sleeps n t e h.second h.other_within short;
      };
    }

-- ---- runs

timeless-halted : (s : State) → (timeless s).halted ≡ s.halted
unfolding state_set_back
timeless-halted s = refl

timeless-files : (s : State) → (timeless s).files ≡ s.files
unfolding state_set_back
timeless-files s = refl

pub late-halted : (s t : State) → AlikeButLate s t → s.halted ≡ t.halted
late-halted s t alike =
    sym (timeless-halted (state_settled s) ∙ settled-halted s) ∙ ap (λ (u : State). u.halted) alike
    ∙ timeless-halted (state_settled t) ∙ settled-halted t

pub late-files : (s t : State) → AlikeButLate s t → s.files ≡ t.files
late-files s t alike =
    sym (timeless-files (state_settled s) ∙ settled-files s) ∙ ap (λ (u : State). u.files) alike
    ∙ timeless-files (state_settled t) ∙ settled-files t

pub late-more : (n m : ℕ) (s t : State) → n ≤ m → AreLateAlike n s t → AreLateAlike m s t
late-more n m s t more h = record {
  alike = h.alike;
  first = h.first;
  second = h.second;
  within = within-more n m s more h.within;
  other_within = within-more n m t more h.other_within;
}

go-more : (n m : ℕ) (a b : After) → n ≤ m → GoLateAlike n a b → GoLateAlike m a b
go-more n m a b more h = record { bytes = h.bytes; states = late-more n m a.state b.state more h.states }

followed-late : (n m : ℕ) (a b : After) (rest : State → After) (Never : State → Type 0) (h u : Option ℤ) → u ≡ h
    → n ≤ m → GoLateAlike n a b → UnlessHalted a.state Never h
    → (Never a.state → GoLateAlike m (rest a.state) (rest b.state))
    → GoLateAlike m (followed_by a rest h) (followed_by b rest u)
followed-late n m a b rest Never (Some status) u same more both never later =
    subst (λ o. GoLateAlike m a (followed_by b rest o)) (sym same) (go-more n m a b more both)
followed-late n m a b rest Never None u same more both never later =
    let on = later never in
    subst (λ o. GoLateAlike m (after_bytes a.bytes (rest a.state)) (followed_by b rest o)) (sym same) (record {
      bytes = ap (λ x. x ++ (rest a.state).bytes) both.bytes ∙ ap (λ x. b.bytes ++ x) on.bytes;
      states = on.states;
    })

pub run-late : RunKeepsLateAlike
unfolding run NeverAsksTime
run-late n s t [] h short never = record { bytes = refl; states = late-more n (n + 0) s t (omega arith) h }
run-late n s t (e ∷ es) h short never =
    let m = n + (ticks_of e + ticks_in es) in
    let one = event-late n s t e h (omega (arith, short)) never.0 in
    followed-late (n + ticks_of e) m (next s e) (next t e) (λ u. run u es) (λ u. NeverAsksTime u es)
    (next s e).state.halted (next t e).state.halted
    (sym (late-halted (next s e).state (next t e).state one.states.alike)) (omega arith) one never.1
    (λ later. go-more (n + ticks_of e + ticks_in es) m (run (next s e).state es) (run (next t e).state es) (omega arith)
    (run-late (n + ticks_of e) (next s e).state (next t e).state es one.states (omega (arith, short)) later))

-- ---- a late tick

pub late-tick : LateTickChangesNothing
unfolding next
late-tick n s clock within short late = record {
  alike = late-settles n s short within late;
  first = clock;
  second = event-clock s Tick clock;
  within = within-more n (n + 1) s (omega arith) within;
  other_within = event-sleeps n s Tick clock within short;
}

pub late-tick-hides : LateTickNeverShows
late-tick-hides n s events clock within short late never =
    let both = run-late (n + 1) s (next s Tick).state events
    (late-tick n s clock within (omega (arith, short)) late) short never in
    record {
      bytes = both.bytes;
      status = late-halted (run s events).state (run (next s Tick).state events).state both.states.alike;
      files = late-files (run s events).state (run (next s Tick).state events).state both.states.alike;
    }
