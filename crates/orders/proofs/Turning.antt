-- Where a turn is due, and a timer interrupt after which the turn is given back.
use Rattle.std.proofs.Common.{[], ap, arith, Bool, false, List, None, Option, refl, set, Some, subst, suc, sym, true}
use Rattle.std.proofs.Common.{zero, ℕ, ◌∙◌, ◌∷◌, ◌≡◌}
use Rattle.std.specs.List.{list_any}
use Rattle.std.specs.Prelude.{is_none, ◌&&◌, ◌||◌}
use Rattle.orders.proofs.Alike.{BothAlike, asleep-alike, halted-alike, idle-alike, runs-alike}
use Rattle.orders.specs.Ends.{is_anyone_asleep, is_asleep}
use Rattle.orders.specs.Looked.{IsDue, IsTurnBack}
use Rattle.schedules.proofs.Ticks.{interrupted, tick-interrupts}
use Rattle.schedules.specs.Alike.{AreAlike, HasClock, TickBackChangesNothing, asks_at, asks_time, is_asleep_in}
use Rattle.unixmodel.specs.declared.event.Event.TheVariants.{Step, Tick}
use Rattle.unixmodel.specs.declared.process.Mode.TheVariants.{Ready}
use Rattle.unixmodel.specs.Calls.{quiet}
use Rattle.unixmodel.specs.Files.{slot}
use Rattle.unixmodel.specs.Next.{next}
use Rattle.unixmodel.specs.Process.{Process, with_mode}
use Rattle.unixmodel.specs.Run.{picked_unless, run}
use Rattle.unixmodel.specs.State.{State, holds, running}
use Rattle.unixmodel.specs.Turn.{turn}

-- ---- who sleeps

or-left : (a b : Bool) → (a || b) ≡ false → a ≡ false
or-left true b h = absurd cc
or-left false b h = refl

or-right : (a b : Bool) → (a || b) ≡ false → b ≡ false
or-right true b h = absurd cc
or-right false b h = h

or-false : (a b : Bool) → a ≡ false → b ≡ false → (a || b) ≡ false
or-false true b one other = absurd cc
or-false false b one other = other

-- where nobody is found asleep, none sleeps
pub none-asleep : (ps : List (Option Process)) → list_any (holds is_asleep) ps ≡ false → (i : ℕ) (p : Process)
    → slot ps i ≡ Some p → is_asleep_in p.mode ≡ false
none-asleep [] awake i p at = absurd cc
none-asleep (None ∷ ps) awake zero p at = absurd cc
none-asleep (None ∷ ps) awake (suc i) p at = none-asleep ps awake i p at
none-asleep (Some q ∷ ps) awake zero p at =
    let same : q ≡ p = cc in
    subst (λ (r : Process). is_asleep_in r.mode ≡ false) same (or-left (is_asleep_in q.mode) _ awake)
none-asleep (Some q ∷ ps) awake (suc i) p at = none-asleep ps (or-right (is_asleep_in q.mode) _ awake) i p at

-- nor with one more who is awake
awake-set : (ps : List (Option Process)) (i : ℕ) (p : Process) → list_any (holds is_asleep) ps ≡ false
    → is_asleep p ≡ false → list_any (holds is_asleep) (set ps i (Some p)) ≡ false
awake-set [] i p awake one = refl
awake-set (o ∷ ps) zero p awake one =
    or-false (is_asleep p) (list_any (holds is_asleep) ps) one (or-right (holds is_asleep o) _ awake)
awake-set (o ∷ ps) (suc i) p awake one =
    or-false (holds is_asleep o) (list_any (holds is_asleep) (set ps i (Some p)))
    (or-left (holds is_asleep o) (list_any (holds is_asleep) ps) awake)
    (awake-set ps i p (or-right (holds is_asleep o) _ awake) one)

-- ---- where a turn is due

-- where nobody runs, nobody asks for the time
pub none-asks : (s : State) → running s ≡ None → asks_time s Step ≡ false
unfolding asks_time
none-asks s none = ap (asks_at s) none

-- a turn that is due is so in a state that is alike
pub due-alike : (s t : State) → BothAlike s t → IsDue t → IsDue s
due-alike s t both h = record {
  goes = halted-alike s t both.alike ∙ h.goes;
  clock = both.first;
  none = runs-alike s t both ∙ h.none;
  awake = asleep-alike s t both.alike ∙ h.awake;
  due = idle-alike s t both ∙ h.due;
}

-- ---- a tick after which the turn is given back

-- a step that picks a process is one where none runs
picks : (t : State) (o : Option ℕ) (i : ℕ) → picked_unless t o ≡ Some i → (o ≡ None) × (turn t ≡ Some i)
picks t None i h = (refl, h)
picks t (Some j) i h = absurd cc

module _ (s : State) (h : IsTurnBack s) (up : s.halted ≡ None) (clock : HasClock s) where
  ticks : (next s Tick).state ≡ interrupted s h.place h.process
  unfolding next
  ticks = tick-interrupts s h.place h.process h.runs h.there

  -- then a turn is due
  pub back-due : IsDue (next s Tick).state
  back-due =
      let t = (next s Tick).state in
      let picked = picks t (running t) h.place h.again in
      record {
        goes = ap (λ (t : State). t.halted) ticks ∙ up;
        clock = subst (λ (t : State). HasClock t) (sym ticks) (omega arith);
        none = picked.0;
        awake = ap (λ (t : State). is_anyone_asleep t) ticks
            ∙ awake-set s.places h.place (with_mode Ready h.process) h.awake refl;
        due = ap (λ (o : Option ℕ). is_none o && is_none (turn t)) picked.0
            ∙ ap (λ (o : Option ℕ). is_none o) picked.1;
      }

  pub back-alike : TickBackChangesNothing → AreAlike (quiet s) (run s (Tick ∷ Step ∷ []))
  back-alike law =
      law s h.place h.process clock up h.runs h.there h.alive h.last (none-asleep s.places h.awake) h.again
