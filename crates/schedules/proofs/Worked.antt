-- Worked rows of the definitions: a program that sleeps for a tick and ends, computed by the checker.
use Rattle.std.specs.Prelude.{◌++◌, [], false, List, map, None, Option, option_map, refl, replicate, Some, true}
use Rattle.std.specs.Prelude.{ℕ, ◌∷◌, ◌≡◌}
use Rattle.schedules.specs.Coarse.{interrupts, shown}
use Rattle.schedules.specs.Holding.{acting}
use Rattle.schedules.specs.Schedules.{computes}
use Rattle.unixmodel.specs as m
use Rattle.unixmodel.specs.Numbers.{le}
use Rattle.unixmodel.specs.Run.{run}
use Rattle.unixmodel.specs.Start.{start_flat}
use Rattle.unixmodel.specs.State.{State}
use Rattle.unixmodel.specs.declared.event.Event.{Event}
use Rattle.unixmodel.specs.declared.event.Event.TheVariants.{Key, Step, Tick}

-- addi a0, x0, 1; addi a7, x0, 13; ecall: sleep for a tick; addi a7, x0, 2; ecall: exit with status 0
abbrev sleeper : List ℕ
sleeper = le 4 0x00100513 ++ le 4 0x00d00893 ++ le 4 0x00000073 ++ le 4 0x00200893 ++ le 4 0x00000073

-- after n steps of a list of events
abbrev after : {X : Type 0} → (State → X) → List Event → Option X
after look events = option_map (λ s. look (run s events).state) (start_flat sleeper 256)

worked : record {
  -- step 1 is its turn, steps 2 and 3 compute, step 4 calls; then nobody runs
  computing : map (λ n. after computes (replicate n Step)) (0 ∷ 1 ∷ 2 ∷ 3 ∷ 4 ∷ [])
      ≡ Some false ∷ Some true ∷ Some true ∷ Some false ∷ Some false ∷ [];
  -- it acts in steps 2 to 4, and not in its turn: it neither waits there nor does an instruction
  acts : map (λ n. after (λ s. acting s Step) (replicate n Step)) (0 ∷ 1 ∷ 3 ∷ 4 ∷ [])
      ≡ Some None ∷ Some (Some 0) ∷ Some (Some 0) ∷ Some None ∷ [];
  -- once the tick is over it goes on with its call, and so acts in its turn
  goes_on : after (λ s. acting s Step) (replicate 4 Step ++ Tick ∷ []) ≡ Some (Some 0);
  nobody_acts : map (λ e. after (λ s. acting s e) (replicate 2 Step)) (Tick ∷ Key 0x61 ∷ [])
      ≡ Some None ∷ Some None ∷ [];
  -- a step that computes doesn't show
  hidden : after shown (replicate 2 Step) ≡ after shown (replicate 3 Step);
  kept : interrupts (Step ∷ Tick ∷ Step ∷ Key 0x61 ∷ Tick ∷ []) ≡ Tick ∷ Key 0x61 ∷ Tick ∷ [];
}
unfolding computes acting shown interrupts m.Calls.call m.Counts.frames_of m.Cycle.cycle m.Files.free_slots
    m.Meaning.act m.Memory.pages_of m.Memory.write_bytes m.Memory.zeros m.Next.effect_of m.Next.execute m.Next.next
    m.Outcome.no_descriptors m.Plan.plan_flat m.Plan.push m.Plan.push_pointers m.Plan.push_strings m.Plan.with_args
    m.Plan.with_stack m.ProcessCalls.sleep_on m.Reap.reap m.Reap.without_nodes m.Reap.without_opens
    m.Reap.without_pipes m.Run.run m.Start.flat_descriptors m.Start.flat_files m.Start.flat_opens m.Start.start_flat
    m.Turn.is_ready m.Turn.round_from m.Turn.turn m.Words.instruction_of
worked = record { computing = refl; acts = refl; goes_on = refl; nobody_acts = refl; hidden = refl; kept = refl }
