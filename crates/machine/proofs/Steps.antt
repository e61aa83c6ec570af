-- The outcome of an event, from what the kernel does; what a machine leaves, and what it reports of its files.
use Rattle.machine.proofs.Common.{[], After, ap, Appends-nil, arith, Bool, Console, ConsoleFails, Denotes, Device, drop}
use Rattle.machine.proofs.Common.{Err, fails, false, FileTree, free_slots, Halt, Halted, IfErr, image_of, InitEnded}
use Rattle.machine.proofs.Common.{IsDone, IsUp, Kernel, Key, le_refl, length, length-replicate, links_of, List, min}
use Rattle.machine.proofs.Common.{nat_lt, next, Node, None, Ok, Option, option_map, place_limit, quiet, refl, replicate}
use Rattle.machine.proofs.Common.{Result, RunGives, running, Some, State, state_of, Step, StepGives, subst, sym, take}
use Rattle.machine.proofs.Common.{taken, Tick, true, unheld, View, ℕ, ℤ, ◌++◌, ◌+◌, ◌-◌, ◌||◌, ◌∙◌, ◌∷◌, ◌≡◌, ◌≤◌}
use Rattle.unixmodel.specs.Next.{stopped}
use Rattle.std.proofs.lemmas.List.{length-drop, length-take, take-replicate, take_min}
use Rattle.unixmodel.specs.Shown.{left, stat_of}
use Rattle.calls.specs.Gives.{Dispatches, EventGives, LeavesTree, Makes}
use Rattle.calls.specs.Steps.{LeavesFiles, PieceGives, PieceGoes, stepped, StepsGive}
use Rattle.calls.proofs.Pieces.{stops-rest, went-all, went-none}
use Rattle.machine.specs.Pieces.{HaltsLast, IsPiece}
use Rattle.console.specs.Output.{AppendsBeginning}
use Rattle.std.proofs.KnownBytes.{Appends-trans}
use Rattle.std.proofs.Common.{append-nil}
use Rattle.std.proofs.Math.Bool.{or-false}
use Rattle.std.specs.List.{list_any}
use Rattle.machine.specs.Saved.{IsLost, IsSaved, LosesDevice}
use Rattle.unixmodel.specs.OpenFiles.{OpenFile, is_node}
use Rattle.unixmodel.specs.Reap.{is_used, kept, reap, without_nodes, without_opens, without_pipes}
use Rattle.digests.specs.Digest.{digest_but_files, digest_but_numbers, digest_of, files_mixed, numberless_but_files}
use Rattle.schedules.specs.Alike.{state_set_back, timeless}
use Rattle.blockdev.specs.Splice.{part}
use Rattle.inode.specs.declared.InodeStat.{InodeStat}
use Rattle.machine.specs.Looks.{IsRead, stat_from, stat_seen}
use Rattle.tree.specs.Telling.{Tells, TellsAny}

abbrev pub told : Kernel → Bool → View
told k failed = record { state = state_of k; failures = k.tree.failures; failed = failed; identity = k.tree.identity }

module _ (old new : Kernel) (before after : Option (List ℕ)) (goes : old.halted ≡ None) where
  up : IsUp (told old false)
  up = record { sound = refl; goes = goes }

  done-gives : {a : After} {r : Option ℤ} → Makes new a before after r → new.tree.identity ≡ old.tree.identity
      → old.tree.failures ≤ new.tree.failures → IsDone (told old false) (told new false) a before after r
  done-gives made device later =
      record {
        state = made.state;
        halts = made.halts;
        sound = refl;
        printed = made.printed;
        same_device = device;
        later = later;
      }

  module _ (failed : Bool) (rising : Type 0) where
    -- the writer failed, and the disk is as it was
    console-gives : (bytes : List ℕ) → rising → AppendsBeginning before after bytes → new.tree ≡ old.tree
        → ConsoleFails (told old false) (told new true) before after rising bytes
    console-gives bytes rises printed same = record {
      rises = rises;
      failed = refl;
      printed = printed;
      files = ap (λ (t : FileTree). t.files) same;
      same = ap (λ (t : FileTree). t.failures) same;
      same_device = ap (λ (t : FileTree). t.identity) same;
    }

    -- what the kernel does is what the machine gives
    pub does-gives : (a : After) (result : Result (Unit {0}) Halt) → failed ≡ fails result
        → EventGives new a before after rising result → LeavesTree old.tree new.tree result
        → StepGives (told old false) (told new failed) a before after rising result
    does-gives a (Ok u) flag made leaves = rw flag (up, done-gives made leaves.same_device leaves.later)
    does-gives a (Err (InitEnded status)) flag made leaves =
        rw flag (up, done-gives made leaves.same_device leaves.later)
    does-gives a (Err Console) flag made leaves = rw flag (up, console-gives a.bytes made.0 made.1 leaves)
    does-gives a (Err Device) flag made leaves =
        rw flag (
          up,
          record {
            rises = leaves.rises;
            later = leaves.later;
            failed = refl;
            printed = made;
            same_device = leaves.same_device;
          },
        )
    does-gives a (Err Halted) flag made leaves = absurd made

    -- an event that halts nothing and leaves the disk as it is: it is done, or the console failed
    pub goes-gives : (a : After) (result : Result (Unit {0}) Halt) → a.state.halted ≡ None → failed ≡ fails result
        → Dispatches new a before after rising result → IfErr result (λ halt. halt ≡ Console) → new.tree ≡ old.tree
        → StepGives (told old false) (told new failed) a before after rising result
    goes-gives a (Ok u) on flag made only same =
        rw flag (
          up,
          done-gives (record { state = made.state; halts = on; printed = made.printed })
              (ap (λ (t : FileTree). t.identity) same) (rw same (omega arith)),
        )
    goes-gives a (Err Console) on flag made only same = rw flag (up, console-gives a.bytes made.0 made.1 same)
    goes-gives a (Err Device) on flag made only same = absurd (let bad : Device ≡ Console = only in cc)
    goes-gives a (Err _) on flag made only same = absurd made

    -- many steps
    pub steps-give : (count : ℕ) (result : Result (Unit {0}) Halt) → failed ≡ fails result
        → StepsGive old new count before after rising result → LeavesFiles old.tree new.tree result
        → RunGives (told old false) (told new failed) (replicate count Step) before after rising result
    steps-give count (Ok u) flag made leaves = rw flag (up, done-gives made leaves.same_device leaves.later)
    steps-give count (Err (InitEnded status)) flag made leaves =
        rw flag (up, done-gives made leaves.same_device leaves.later)
    steps-give count (Err Console) flag made leaves =
        let front : take made.done (replicate count Step) ≡ replicate made.done Step = let more =
        made.more in take-replicate made.done count Step (omega (arith, more)) in
        rw flag (
          up,
          record {
            rises = made.rises;
            failed = refl;
            printed = made.printed;
            done = made.done;
            more = rw (length-replicate count Step) made.more;
            goes = rw front made.goes;
            files = rw front made.files;
            same_device = leaves.same_device;
            later = leaves.later;
          },
        )
    steps-give count (Err Device) flag made leaves =
        let front : take made.done (replicate count Step) ≡ replicate made.done Step = let more =
        made.more in take-replicate made.done count Step (omega (arith, more)) in
        rw flag (
          up,
          record {
            done = made.done;
            more = rw (length-replicate count Step) made.more;
            goes = rw front made.goes;
            fails = record {
              rises = leaves.rises;
              later = leaves.later;
              failed = refl;
              printed = rw front made.printed;
              same_device = leaves.same_device;
            };
          },
        )
    steps-give count (Err Halted) flag made leaves = absurd made

    -- no step returns that the machine had stopped
    goes-unhalted : (count : ℕ) (result : Result (Unit {0}) Halt) → PieceGoes old new count before after rising result
        → result ≡ Err Halted → ⊥
    goes-unhalted count (Err Halted) piece is = piece.last
    goes-unhalted count r piece is = cc

    -- the step at which it stops is the last of them
    pub halts-last : (count : ℕ) (result : Result (Unit {0}) Halt) → PieceGoes old new count before after rising result
        → HaltsLast (told old false) (told new failed) before after count result
    halts-last count (Ok u) piece = tt
    halts-last count (Err (InitEnded status)) piece =
        record { done = piece.done; last = piece.counts; goes = piece.went.makes.halts; leaves = tt }
    halts-last count (Err Device) piece = record {
      done = piece.done;
      last = piece.counts;
      goes = piece.went.makes.halts;
      leaves = rw (append-nil (stepped old piece.done).bytes)
          at (Appends-trans before before after (stepped old piece.done).bytes [] piece.went.makes.printed piece.last);
    }
    halts-last count (Err Console) piece = record {
      done = piece.done;
      last = piece.counts;
      goes = piece.went.makes.halts;
      leaves = ap (λ (t : FileTree). t.files) piece.leaves ∙ ap (λ (s : State). s.files) piece.went.makes.state;
    }
    halts-last count (Err Halted) piece = absurd piece.last

    -- what was done at once
    pub advance-gives : (most count : ℕ) (result : Result (Unit {0}) Halt) → old.tree.failed ≡ false
        → failed ≡ fails result → PieceGives old new most before after rising count result
        → RunGives (told old false) (told new failed) (replicate count Step) before after rising result
        × IsPiece (told old false) (told new failed) most count result
    advance-gives most count (Ok u) sound flag piece = (
      steps-give count (Ok u) flag (went-all piece.goes.0 count (le_refl count) (le_refl count)) piece.goes.0.served,
      record {
        within = piece.within;
        busy = piece.busy;
        idle = piece.goes.1;
        none = λ is. absurd (goes-unhalted count (Ok u) piece.goes is);
      },
    )
    advance-gives most count (Err halt) sound flag piece =
        let all = stops-rest count count (went-none before goes sound) goes (omega arith) (λ r. r) piece.goes in (
          steps-give count (Err halt) flag all.0 all.1,
          record {
            within = piece.within;
            busy = piece.busy;
            idle = tt;
            none = λ is. absurd (goes-unhalted count (Err halt) piece.goes is);
          },
        )

-- an event that halts nothing, prints nothing, and leaves the disk as it is
pub quiet-gives : (old new : Kernel) (a : After) (at : Option (List ℕ)) → old.halted ≡ None → a.state.halted ≡ None
    → a ≡ quiet (state_of new) → new.tree ≡ old.tree
    → IsUp (told old false) × IsDone (told old false) (told new false) a at at None
quiet-gives old new a at goes on made same = (
  up old new at at goes,
  done-gives old new
      at at goes (record { state = rw made refl; halts = on; printed = rw made (Appends-nil at) })
      (ap (λ (t : FileTree). t.identity) same) (rw same (omega arith)),
)

stopped-halts : (s : State) (o : Option ℕ) → (stopped s o).halted ≡ s.halted
stopped-halts s None = refl
stopped-halts s (Some i) = refl

pub tick-halts : (s : State) → (next s Tick).state.halted ≡ s.halted
unfolding next
tick-halts s = stopped-halts s (running s)

pub key-halts : (s : State) (b : ℕ) → (next s (Key b)).state.halted ≡ s.halted
unfolding next
key-halts s b = refl

-- ---- what is left of a machine: only links name a node

none-kept : (opens : List (Option OpenFile)) (k : ℕ) → taken (kept (λ j f. false) k opens) ≡ []
none-kept [] k = refl
none-kept (None ∷ opens) k = none-kept opens (k + 1)
none-kept (Some f ∷ opens) k = none-kept opens (k + 1)

-- without processes no descriptor names an open file, and no open file or directory a node
module _ (s : State) where
  unused : (n : ℕ) → is_used (without_pipes (without_opens (record s { places = free_slots place_limit }))) n ≡ false
  unfolding without_pipes without_opens free_slots
  unused n = ap (λ fs. list_any (λ (f : OpenFile). is_node n f.target) fs || false) (none-kept s.opens 0)

  still : (n : ℕ) (node : Node)
      → (nat_lt 0 (links_of node)
      || is_used (without_pipes (without_opens (record s { places = free_slots place_limit }))) n)
      ≡ nat_lt 0 (links_of node)
  still n node = ap (λ b. nat_lt 0 (links_of node) || b) (unused n) ∙ or-false (nat_lt 0 (links_of node))

  pub files-left : left s ≡ unheld s.files
  unfolding reap without_nodes without_pipes without_opens
  files-left = λ i. kept (λ n node. still n node i) 0 s.files

-- the disk has the files of the kernel once nobody holds any
pub saved : {D : Type 0} (content : D → List (List ℕ)) (identity : D → List ℕ) (k : Kernel) (tree : FileTree)
    (failed : Bool) (disk : D) → tree ≡ k.tree → failed ≡ false → identity disk ≡ tree.identity
    → Denotes (image_of (content disk)) (unheld tree.files)
    → IsSaved content identity (told k failed) disk
saved content identity k tree failed disk same sound device denotes = record {
  sound = sound;
  same_device = device ∙ ap (λ (t : FileTree). t.identity) same;
  denotes = subst (Denotes (image_of (content disk)))
      (ap (λ (t : FileTree). unheld t.files) same ∙ sym (files-left (state_of k))) denotes;
}

-- an access failed on the way
pub lost-saving : {D : Type 0} {identity : D → List ℕ} {count : D → ℕ} (k : Kernel) (tree : FileTree) (failed : Bool)
    → tree ≡ k.tree → failed ≡ false → LosesDevice identity count tree → IsLost identity count (told k failed)
lost-saving k tree failed same sound lost = record {
  sound = sound;
  disk = lost.disk;
  same_device = lost.same_device ∙ ap (λ (t : FileTree). t.identity) same;
  later = rw (← same) lost.later;
  rises = rw (← same) lost.rises;
}

-- ---- what is reported of the files of the disk is what the abstract Unix shows

stat-same : (s : InodeStat) (node : Node) → Tells s node → stat_from s ≡ stat_seen (stat_of node)
stat-same s node (kind, links, size, major) = rw (kind, links, size) refl

-- what is reported of any number is what the abstract Unix shows of it
pub told-shown : (told : Option InodeStat) (o : Option Node) → TellsAny told o
    → option_map stat_from told ≡ option_map stat_seen (option_map stat_of o)
told-shown None None tells = refl
told-shown None (Some node) tells = absurd tells
told-shown (Some s) None tells = absurd tells
told-shown (Some s) (Some node) tells = ap (λ x. Some x) (stat-same s node tells)

-- as many bytes as there are, from offset `at` on
pub read-shown : (bytes old new : List ℕ) (at k : ℕ) → k ≡ min (length old) (length bytes - at)
    → new ≡ part at k bytes ++ drop k old → IsRead (take (length old) (drop at bytes)) old new k
read-shown bytes old new at k count front =
    let k_is : k ≡ min (length old) (length (drop at bytes)) = count
    ∙ ap (min (length old)) (sym (length-drop at bytes)) in
    record {
      count = k_is ∙ sym (length-take (length old) (drop at bytes));
      front = front ∙ ap (λ xs. xs ++ drop k old)
          (ap (λ n. take n (drop at bytes)) k_is ∙ take_min (length old) (drop at bytes));
    }

pub digest-told : {but digest : ℕ} (k : Kernel) → but ≡ digest_but_files (state_of k)
    → digest ≡ files_mixed but k.tree.files → digest ≡ digest_of (state_of k)
unfolding digest_of
digest-told k but_is is = is ∙ ap (λ d. files_mixed d k.tree.files) but_is

pub timeless-told : {but digest : ℕ} (k : Kernel) → but ≡ numberless_but_files (timeless (state_of k))
    → digest ≡ files_mixed but k.tree.files → digest ≡ digest_but_numbers (timeless (state_of k))
unfolding digest_but_numbers state_set_back
timeless-told k but_is is = is ∙ ap (λ d. files_mixed d k.tree.files) but_is
