-- How a run ends whose bytes are written out, and what it leaves.
use Rattle.std.specs.Io.KnownBytes.{Keeps}
use Rattle.calls.specs.declared.halt.Halt.{Halt}
use Rattle.host.specs.Reports.{end_of, status_of}
use Rattle.host.specs.declared.report.End.{End}
use Rattle.host.specs.declared.report.End.TheVariants.{Halted, Running}
use Rattle.machine.specs.View.{IsUp, View}
use Rattle.unixmodel.specs.declared.event.Event.{Event}
use Rattle.std.proofs.Common.{[], ap, append-nil, Bool, drop, Err, false, inr, List, None, Ok, Option, refl, Result}
use Rattle.std.proofs.Common.{Some, arith, inl, min, subst, sym, take, true, ℕ, ℤ, ◌+◌, ◌-◌, ◌<◌, ◌∙◌, ◌≡◌, ◌≢◌}
use Rattle.std.proofs.Common.{◌^◌, ◌≤◌}
use Rattle.std.proofs.KnownBytes.{Appends-kept}
use Rattle.std.proofs.lemmas.List.{take-append-drop}
use Rattle.calls.specs.declared.halt.Halt.TheVariants as halt
use Rattle.driver.specs.Tails.{written_of}
use Rattle.driver.proofs.Tails.{written-appends}
use Rattle.machine.proofs.RunLemmas.{begins_both}
use Rattle.run_commands.specs.Runs.{HasDevice, IsPlayed, Leaves, PlaysOut, Saves}
use Rattle.console.specs.Output.{AppendsBeginning}
use Rattle.machine.specs.Gives.{ConsoleFailsIn, DeviceFailsIn, IsDone, RunGives}
use Rattle.machine.specs.Saved.{SaveGives}
use Rattle.unixmodel.specs.Calls.{After}
use Rattle.unixmodel.specs.Run.{run}

-- ---- what is written out

module _ (old new : View) (before mid after : Option (List ℕ)) (keeps : Keeps mid after) where
  -- all bytes
  done-written : (a : After) (halted : Option ℤ) → IsDone old new a before mid halted
      → IsDone old new a before after halted
  done-written a halted k = record {
    state = k.state;
    halts = k.halts;
    sound = k.sound;
    printed = Appends-kept _ _ _ _ k.printed keeps;
    same_device = k.same_device;
    later = k.later;
  }

  -- all bytes are a beginning of them
  all-begins : (a : After) (halted : Option ℤ) → IsDone old new a before mid halted
      → AppendsBeginning before after a.bytes
  all-begins a halted k = record {
    front = a.bytes;
    rest = [];
    parts = append-nil a.bytes;
    took = Appends-kept _ _ _ _ k.printed keeps;
  }

  device-written : (events : List Event) → DeviceFailsIn old new events before mid
      → DeviceFailsIn old new events before after
  device-written events k = record {
    done = k.done;
    more = k.more;
    goes = k.goes;
    fails = record {
      rises = k.fails.rises;
      later = k.fails.later;
      failed = k.fails.failed;
      printed = Appends-kept _ _ _ _ k.fails.printed keeps;
      same_device = k.fails.same_device;
    };
  }

  -- what is printed before the device fails is a beginning of what all events print
  device-begins : (events : List Event) → IsUp old → DeviceFailsIn old new events before mid
      → AppendsBeginning before after (run old.state events).bytes
  device-begins events up k =
      let both = begins_both (take k.done events) (drop k.done events) old.state up.goes in
      record {
        front = (run old.state (take k.done events)).bytes;
        rest = both.0;
        parts = both.1 ∙ ap (λ es. (run old.state es).bytes) (take-append-drop k.done events);
        took = Appends-kept _ _ _ _ k.fails.printed keeps;
      }

  begins-written : (bytes : List ℕ) → AppendsBeginning before mid bytes → AppendsBeginning before after bytes
  begins-written bytes k = record {
    front = k.front;
    rest = k.rest;
    parts = k.parts;
    took = Appends-kept _ _ _ _ k.took keeps;
  }

  -- a run that is written out ends as the run ended; where the bytes can't be written, a beginning of them was
  plays-out : (events : List Event) (rising : Type 0) (ended : Result (Unit {0}) Halt) (written : Bool) → IsUp old
      → RunGives old new events before mid rising ended → PlaysOut old new events before after (end_of ended written)
  plays-out events rising (Ok u) true up k = done-written (run old.state events) None k.1
  plays-out events rising (Ok u) false up k = all-begins (run old.state events) None k.1
  plays-out events rising (Err (halt.InitEnded status)) true up k =
      done-written (run old.state events) (Some status) k.1
  plays-out events rising (Err (halt.InitEnded status)) false up k = all-begins (run old.state events) (Some status) k.1
  plays-out events rising (Err halt.Device) true up k = device-written events k.1
  plays-out events rising (Err halt.Device) false up k = device-begins events up k.1
  plays-out events rising (Err halt.Console) true up k = begins-written (run old.state events).bytes k.1.printed
  plays-out events rising (Err halt.Console) _ up k = begins-written (run old.state events).bytes k.1.printed
  plays-out events rising (Err halt.Halted) written up k = absurd (k.stopped up)

-- the same, where what is written by the run is known by other names
pub plays-through : (old new : View) (from before to mid after : Option (List ℕ)) → from ≡ before → to ≡ mid
    → Keeps mid after
    → (events : List Event) (rising : Type 0) (ended : Result (Unit {0}) Halt) (written : Bool) → IsUp old
    → RunGives old new events from to rising ended → PlaysOut old new events before after (end_of ended written)
plays-through old new from before to mid after e f keeps events rising ended written up k =
    plays-out old new before mid after keeps events rising ended written up
    (subst (λ b. RunGives old new events b mid rising ended) e
    (subst (λ t. RunGives old new events from t rising ended) f k))

-- ---- all that a writer took, where more was put out

module _ (old new : View) (before after : Option (List ℕ)) where
  done-taken : (a : After) (halted : Option ℤ) → IsDone old new a before after halted
      → IsDone old new a (written_of before) (written_of after) halted
  done-taken a halted k = record {
    state = k.state;
    halts = k.halts;
    sound = k.sound;
    printed = written-appends before after a.bytes k.printed;
    same_device = k.same_device;
    later = k.later;
  }

  device-taken : (events : List Event) → DeviceFailsIn old new events before after
      → DeviceFailsIn old new events (written_of before) (written_of after)
  device-taken events k = record {
    done = k.done;
    more = k.more;
    goes = k.goes;
    fails = record {
      rises = k.fails.rises;
      later = k.fails.later;
      failed = k.fails.failed;
      printed = written-appends before after _ k.fails.printed;
      same_device = k.fails.same_device;
    };
  }

  console-taken : (events : List Event) (rising : Type 0) → ConsoleFailsIn old new events before after rising
      → ConsoleFailsIn old new events (written_of before) (written_of after) rising
  console-taken events rising k = record {
    rises = k.rises;
    failed = k.failed;
    printed = record {
      front = k.printed.front;
      rest = k.printed.rest;
      parts = k.printed.parts;
      took = written-appends before after k.printed.front k.printed.took;
    };
    done = k.done;
    more = k.more;
    goes = k.goes;
    files = k.files;
    same_device = k.same_device;
    later = k.later;
  }

  pub run-taken : (events : List Event) (rising : Type 0) (r : Result (Unit {0}) Halt)
      → RunGives old new events before after rising r
      → RunGives old new events (written_of before) (written_of after) rising r
  run-taken events rising (Ok u) k = (k.0, done-taken (run old.state events) None k.1)
  run-taken events rising (Err (halt.InitEnded status)) k = (k.0, done-taken (run old.state events) (Some status) k.1)
  run-taken events rising (Err halt.Device) k = (k.0, device-taken events k.1)
  run-taken events rising (Err halt.Console) k = (k.0, console-taken events rising k.1)
  run-taken events rising (Err halt.Halted) k = record {
    stopped = k.stopped;
    same = k.same;
    printed = written-appends before after [] k.printed;
  }

-- ---- what is left

module _ {D : Type 0} (content : D → List (List ℕ)) (identity : D → List ℕ) (count : D → ℕ) (first last : View)
    (events : List Event) (before after : Option (List ℕ)) (saves : Bool) where
  played : (halted : Option ℤ) (disk : Option D) → IsDone first last (run first.state events) before after halted
      → Saves content identity last saves disk
      → IsPlayed content identity first events before after saves halted disk
  played halted disk done saved = record { last = last; done = done; saved = saved }

  -- it is saved
  pub leaves-saved : (end : End) (disk : D) → saves ≡ true → status_of end ≡ 0
      → PlaysOut first last events before after end
      → SaveGives content identity count last (Ok disk)
      → Leaves content identity count first events before after saves end (Some disk)
  leaves-saved Running disk is zero k s = played None (Some disk) k (rw is s)
  leaves-saved (Halted (halt.InitEnded status)) disk is zero k s = played (Some status) (Some disk) k (rw is s)
  leaves-saved _ disk is zero k s = absurd (cc)

  -- all events are done
  all-done : (end : End) → status_of end ≡ 0 → PlaysOut first last events before after end
      → (halted : Option ℤ) × IsDone first last (run first.state events) before after halted
  all-done Running zero k = (None, k)
  all-done (Halted (halt.InitEnded status)) zero k = (Some status, k)
  all-done _ zero k = absurd (cc)

  -- it can't be saved
  pub leaves-unsaved : HasDevice count last → (end : End) (why : Halt) → saves ≡ true → status_of end ≡ 0
      → PlaysOut first last events before after end
      → SaveGives content identity count last (Err why)
      → Leaves content identity count first events before after saves (Halted why) None
  leaves-unsaved has end halt.Device is zero k s =
      let done = all-done end zero k in
      (refl, (last, has, inr (record { wanted = is; halted = done.0; done = done.1; lost = s })))
  leaves-unsaved has end halt.Halted is zero k s = let bad : true ≡ false = sym s
      ∙ (all-done end zero k).1.sound in absurd (cc)
  leaves-unsaved has end _ is zero k s = absurd s

-- ---- a disk that can't fail

not-risen : (n most : ℕ) → 0 < most → min (n + 1) most ≤ 0 → ⊥
not-risen n most some low = absurd (omega arith)

pub no-device : {D : Type 0} (content : D → List (List ℕ)) (identity : D → List ℕ) (first : View) (events : List Event)
    (before after : Option (List ℕ)) (saves : Bool) (disk : Option D) (end : End)
    → Leaves content identity (λ d. 0) first events before after saves end disk → end ≢ Halted halt.Device
no-device content identity first events before after saves disk Running k is = absurd (cc)
no-device content identity first events before after saves disk (Halted (halt.InitEnded status)) k is = absurd (cc)
no-device content identity first events before after saves disk (Halted halt.Console) k is = absurd (cc)
no-device content identity first events before after saves disk (Halted halt.Halted) k is = absurd k
no-device content identity first events before after saves disk (Halted halt.Device) k is = elim k.1.2 [
  | inl fails ↦ not-risen first.failures (2 ^ 64 - 1) (omega arith)
      (subst (λ (x : ℕ). min (first.failures + 1) (2 ^ 64 - 1) ≤ x) (sym k.1.1.1) fails.fails.rises)
  | inr fails ↦ not-risen k.1.0.failures (2 ^ 64 - 1) (omega arith) fails.lost.rises
]
