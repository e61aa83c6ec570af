-- Who is asleep isn't ready, and stays asleep until it is woken.
use Rattle.kernel.proofs.Common.{Bool, List, None, Option, Some, [], all-set, ap, false, is_some, not, option_map, refl}
use Rattle.kernel.proofs.Common.{sym, true, ℕ, ◌||◌, ◌∙◌, ◌≡◌, ◌==◌, ◌∷◌, zero, suc, option_and_then, slice_set}
use Rattle.kernel.proofs.Common.{list_any, and_parts, true≢false, target_of, moved_to, has_slept, seen, IsAsleep}
use Rattle.kernel.proofs.Common.{IsAsleepAs, IsWatched, waits_as, waits_in, waits_on, Bytes, Ticks, Process, is_in}
use Rattle.kernel.proofs.Common.{is_zombie_child_of, place_where, Call, Read, Sleep, Wait, Write, Mode, Running}
use Rattle.kernel.proofs.Common.{Waiting, Zombie, Pending, slot, low, End, OnNode, OnPipe, pending_arg, is_running_mode}
use Rattle.kernel.proofs.Common.{is_zombie_mode, State, has_end, holds, ReadEnd, WriteEnd, found-any, add-one, arith}
use Rattle.kernel.proofs.Common.{length, take, ◌+◌, ◌<◌, or_left}
use Rattle.files.specs.declared.file.Target as file
use Rattle.files.specs.declared.file.Target.TheVariants as target
use Rattle.kernel.specs.declared.channels.Channel.{Channel}
use Rattle.kernel.proofs.Holding.{Processes}
use Rattle.kernel.proofs.Readies.{bare, children-seen, held-same, ready-seen}
use Rattle.proc.proofs.Waiting.{all-in}
use Rattle.proc.specs.Places as table
use Rattle.unixmodel.specs.OpenFiles.{Target}
use Rattle.unixmodel.specs.Turn as turn
use Rattle.std.proofs.lemmas.Bool.{or_from, or_parts, false_from_ne_true}
use Rattle.kernel.specs.Watch.{roused}
use Rattle.proc.specs.Mask.{all_in}

-- ---- those who pass are woken

module _ (test : Process → Bool) where
  -- who isn't awake after was not before, and does not pass
  pub roused-out : (os : Processes) (bs : List Bool) (j : ℕ) → is_in (roused test os bs) j ≡ false
      → (holds test (slot os j) ≡ false) × (is_in bs j ≡ false)
  unfolding roused
  roused-out [] bs j out = (refl, out)
  roused-out (o ∷ os) [] j out = absurd (cc)
  roused-out (o ∷ os) (b ∷ bs) zero out = or_parts _ b out
  roused-out (o ∷ os) (b ∷ bs) (suc j) out = roused-out os bs j out

  roused-one : (os : Processes) (bs : List Bool) (i : ℕ) → i < length os → holds test (slot os i) ≡ true
      → roused test (take (suc i) os) bs ≡ slice_set (roused test (take i os) bs) i true
  unfolding roused
  roused-one [] bs i low passes = absurd (omega arith)
  roused-one (o ∷ os) [] zero low passes = refl
  roused-one (o ∷ os) [] (suc i) low passes = refl
  roused-one (o ∷ os) (b ∷ bs) zero low passes = ap (λ x. x ∷ bs) (or_left _ b passes)
  roused-one (o ∷ os) (b ∷ bs) (suc i) low passes =
      ap (λ xs. (holds test o || b) ∷ xs) (roused-one os bs i (omega arith) passes)

  unroused-one : (os : Processes) (bs : List Bool) (i : ℕ) → i < length os → holds test (slot os i) ≡ false
      → roused test (take (suc i) os) bs ≡ roused test (take i os) bs
  unfolding roused
  unroused-one [] bs i low fails = absurd (omega arith)
  unroused-one (o ∷ os) [] zero low fails = refl
  unroused-one (o ∷ os) [] (suc i) low fails = refl
  unroused-one (o ∷ os) (b ∷ bs) zero low fails = ap (λ x. (x || b) ∷ bs) fails
  unroused-one (o ∷ os) (b ∷ bs) (suc i) low fails =
      ap (λ xs. (holds test o || b) ∷ xs) (unroused-one os bs i (omega arith) fails)

  -- one more slot was looked at
  pub roused-more : (os : Processes) (bs : List Bool) (i : ℕ) → i < length os → holds test (slot os i) ≡ true
      → slice_set (roused test (take i os) bs) i true ≡ roused test (take (i + 1) os) bs
  roused-more os bs i low passes = rw add-one (sym (roused-one os bs i low passes))

  pub roused-same : (os : Processes) (bs : List Bool) (i : ℕ) → i < length os → holds test (slot os i) ≡ false
      → roused test (take i os) bs ≡ roused test (take (i + 1) os) bs
  roused-same os bs i low fails = rw add-one (sym (unroused-one os bs i low fails))

-- ---- searches

module _ (test : Process → Bool) where
  -- a slot gets another process, which passes only if the old one did: nothing more is found
  any-put : (os : Processes) (i : ℕ) (o : Option Process) → (holds test o ≡ true → holds test (slot os i) ≡ true)
      → list_any (holds test) os ≡ false → list_any (holds test) (slice_set os i o) ≡ false
  any-put [] i o here none = none
  any-put (x ∷ os) zero o here none =
      let parts = or_parts _ _ none in
      or_from _ _ (false_from_ne_true _ (λ passes. true≢false (sym (here passes) ∙ parts.0))) parts.1
  any-put (x ∷ os) (suc i) o here none =
      let parts = or_parts _ _ none in
      or_from _ _ parts.0 (any-put os i o here parts.1)

-- ---- who is asleep is not ready, and who is not ready is asleep

module _ (a : State) (os : Processes) where
  as-unready : (p : Process) (mode : Mode) → IsAsleepAs a os p mode → turn.is_ready_in (seen a os) (bare p) mode ≡ false
  as-unready p (Waiting w) is = or_from _ _ is.1 is.0
  as-unready p (Zombie status) is = refl
  as-unready p _ is = absurd is

  o-unready : (o : Option Process) → IsAsleep a os o → holds (turn.is_ready (seen a os)) (option_map bare o) ≡ false
  unfolding turn.is_ready
  o-unready None is = refl
  o-unready (Some p) is = as-unready p _ is

  pub asleep-unready : (j : ℕ) → IsAsleep a os (slot os j) → turn.ready (seen a os) j ≡ false
  asleep-unready j is = ready-seen a os j _ refl ∙ o-unready _ is

  as-asleep : (p : Process) (mode : Mode) → is_running_mode mode ≡ false
      → turn.is_ready_in (seen a os) (bare p) mode ≡ false → IsAsleepAs a os p mode
  as-asleep p (Waiting w) rests unready = let parts = or_parts _ _ unready in (parts.1, parts.0)
  as-asleep p (Zombie status) rests unready = tt
  as-asleep p _ rests unready = absurd (cc)

  o-asleep : (o : Option Process) → holds table.is_running o ≡ false
      → holds (turn.is_ready (seen a os)) (option_map bare o) ≡ false → IsAsleep a os o
  unfolding turn.is_ready
  o-asleep None rests unready = tt
  o-asleep (Some p) rests unready = as-asleep p _ rests unready

  pub unready-asleep : (j : ℕ) → holds table.is_running (slot os j) ≡ false → turn.ready (seen a os) j ≡ false
      → IsAsleep a os (slot os j)
  unready-asleep j rests unready = o-asleep _ rests (sym (ready-seen a os j _ refl) ∙ unready)

-- who runs is awake
runs-wakes : (a : State) (os : Processes) (p : Process) (mode : Mode) → is_running_mode mode ≡ true
    → IsAsleepAs a os p mode → ⊥
runs-wakes a os p Running runs is = is
runs-wakes a os p _ runs is = absurd (cc)

o-wakes : (a : State) (os : Processes) (o : Option Process) → holds table.is_running o ≡ true → IsAsleep a os o → ⊥
o-wakes a os None runs is = absurd (cc)
o-wakes a os (Some p) runs is = runs-wakes a os p _ runs is

-- where all slots are awake nobody sleeps
pub watched-all : {a : State} {os : Processes} (n : ℕ) → IsWatched a os (all_in n)
watched-all n = record { asleep = λ j out. absurd (true≢false (sym (all-in n j) ∙ out)) }

-- ---- what a pending call reads

-- a test of what an open file is on, whatever its offset
abbrev pub IsOfKind : (Target → Bool) → Type 0
IsOfKind test = (offset : ℕ) (t : file.Target) → test (target_of (moved_to offset t)) ≡ test (target_of t)

-- two states with the same pipes, ends and console, whose open files give the same results to such tests
module _ (s r : State) (pipes : s.pipes ≡ r.pipes) (console : s.console ≡ r.console)
    (ends : (q : ℕ) (end : End) → has_end s q end ≡ has_end r q end)
    (files : (test : Target → Bool) → IsOfKind test → (o : Option ℕ)
    → turn.holds_of test (option_and_then (slot s.opens) o)
    ≡ turn.holds_of test (option_and_then (slot r.opens) o)) where
  reads-as : (x : Target) → turn.can_read_from s x ≡ turn.can_read_from r x
  reads-as (OnNode n offset) = ap (λ c. not (turn.is_empty c.committed)) console
  reads-as (OnPipe q end) = rw (pipes, ends q WriteEnd) refl

  writes-as : (x : Target) → turn.can_write_to s x ≡ turn.can_write_to r x
  writes-as (OnNode n offset) = refl
  writes-as (OnPipe q end) = rw (pipes, ends q ReadEnd) refl

  read-kind : IsOfKind (turn.can_read_from r)
  read-kind offset (target.File number old) = refl
  read-kind offset _ = refl

  write-kind : IsOfKind (turn.can_write_to r)
  write-kind offset (target.File number old) = refl
  write-kind offset _ = refl

  -- of a process with the same descriptors
  module _ (p q : Process) (w : Pending) (descriptors : p.descriptors ≡ q.descriptors) where
    file-as : (test : Target → Bool) → IsOfKind test
        → turn.holds_of test (turn.pending_file s (bare p) w) ≡ turn.holds_of test (turn.pending_file r (bare q) w)
    file-as test kind = files test kind (slot p.descriptors (low (pending_arg w 0)))
        ∙ ap (λ ds. turn.holds_of test (option_and_then (slot r.opens) (slot ds (low (pending_arg w 0))))) descriptors

    pub read-as : turn.can_go_on s (bare p) w Read ≡ turn.can_go_on r (bare q) w Read
    read-as = held-same (turn.can_read_from s) (turn.can_read_from r) reads-as _
        ∙ file-as (turn.can_read_from r) read-kind

    pub write-as : turn.can_go_on s (bare p) w Write ≡ turn.can_go_on r (bare q) w Write
    write-as = held-same (turn.can_write_to s) (turn.can_write_to r) writes-as _
        ∙ file-as (turn.can_write_to r) write-kind

-- ---- who is asleep stays so

-- a pending call can't go on still
abbrev pub StillOut : State → State → Processes → Processes → Process → Process → Pending → Call → Type 0
StillOut a a' os os' p q w number = turn.can_go_on (seen a os) (bare p) w number ≡ false
    → turn.can_go_on (seen a' os') (bare q) w number ≡ false

abbrev pub AreStillOut : State → State → Processes → Processes → Type 0
AreStillOut a a' os os' = (p : Process) (w : Pending) (number : Call) → StillOut a a' os os' p p w number

-- where who waits on a channel is woken
abbrev AreOutBut : Channel → State → State → Processes → Type 0
AreOutBut c a a' os = (p : Process) (w : Pending) (number : Call) → waits_in c w number ≡ false
    → StillOut a a' os os p p w number

module _ (a a' : State) (os os' : Processes) where
  pub as-still : (p q : Process) → q.killed ≡ p.killed → (mode : Mode)
      → ((w : Pending) → mode ≡ Waiting w → StillOut a a' os os' p q w w.number) → IsAsleepAs a os p mode
      → IsAsleepAs a' os' q mode
  as-still p q killed (Waiting w) goes is = (killed ∙ is.0, goes w refl is.1)
  as-still p q killed (Zombie status) goes is = tt
  as-still p q killed _ goes is = is

  pub still : AreStillOut a a' os os' → (o : Option Process) → IsAsleep a os o → IsAsleep a' os' o
  still goes None is = tt
  still goes (Some p) is = as-still p p refl _ (λ w at. goes p w _) is

-- ---- a slot gets another process

put-still : (a : State) (os os' : Processes)
    → ((pid : ℕ) → is_some (place_where os (is_zombie_child_of pid)) ≡ false
    → is_some (place_where os' (is_zombie_child_of pid)) ≡ false)
    → (o : Option Process) → IsAsleep a os o → IsAsleep a os' o
put-still a os os' fewer = still a a os os' goes where
  goes : AreStillOut a a os os'
  goes p w Wait none = children-seen a os' p w ∙ fewer p.pid (sym (children-seen a os p w) ∙ none)
  goes p w Read none = read-as (seen a os') (seen a os) refl refl (λ q end. refl) (λ test kind o. refl) p p w refl
      ∙ none
  goes p w Write none = write-as (seen a os') (seen a os) refl refl (λ q end. refl) (λ test kind o. refl) p p w refl
      ∙ none
  goes p w _ none = none

-- a changed process is a zombie only if it was
abbrev pub MakesNoZombie : (Process → Process) → Type 0
MakesNoZombie f = (p : Process) (pid : ℕ) → is_zombie_child_of pid (f p) ≡ true → is_zombie_child_of pid p ≡ true

abbrev pub IsZombieOnlyIf : Option Process → Option Process → Type 0
IsZombieOnlyIf new old = (pid : ℕ) → holds (is_zombie_child_of pid) new ≡ true
    → holds (is_zombie_child_of pid) old ≡ true

pub child-map : (f : Process → Process) → MakesNoZombie f → (o : Option Process) → IsZombieOnlyIf (option_map f o) o
child-map f zombies None pid is = is
child-map f zombies (Some p) pid is = zombies p pid is

module _ {a : State} {os : Processes} {awake : List Bool} (watched : IsWatched a os awake) where
  -- which is a zombie only if the old one was, and is awake or asleep
  pub watched-put : (i : ℕ) (o : Option Process) → IsZombieOnlyIf o (slot os i)
      → (is_in awake i ≡ false → IsAsleep a (slice_set os i o) o) → IsWatched a (slice_set os i o) awake
  watched-put i o zombies here = record {
    asleep = all-set (λ j x. is_in awake j ≡ false → IsAsleep a (slice_set os i o) x) os i o here
        (λ j out. put-still a os (slice_set os i o)
        (λ pid none. found-any (holds (is_zombie_child_of pid)) (slice_set os i o)
        ∙ any-put (is_zombie_child_of pid) os i o (zombies pid)
        (sym (found-any (holds (is_zombie_child_of pid)) os) ∙ none)) (slot os j) (watched.asleep j out));
  }

  -- a process that runs is awake, and may become any other one except a zombie
  pub watched-running : (i : ℕ) (f : Process → Process) → holds table.is_running (slot os i) ≡ true → MakesNoZombie f
      → IsWatched a (slice_set os i (option_map f (slot os i))) awake
  watched-running i f runs zombies =
      watched-put i (option_map f (slot os i)) (child-map f zombies (slot os i))
      (λ out. absurd (o-wakes a os (slot os i) runs (watched.asleep i out)))

-- a process that hasn't ended is nobody's zombie
pub no-zombie : (mode : Mode) → is_zombie_mode mode ≡ false → (p : Process) (pid : ℕ)
    → is_zombie_child_of pid (record p { mode = mode }) ≡ true → is_zombie_child_of pid p ≡ true
no-zombie mode lives p pid is =
    absurd (true≢false (sym (and_parts (p.parent == pid) (is_zombie_mode mode) is).1 ∙ lives))

-- ---- a channel was woken

module _ {a : State} {os : Processes} {awake : List Bool} (watched : IsWatched a os awake) where
  watched-but : (c : Channel) (a' : State) → AreOutBut c a a' os → IsWatched a' os (roused (waits_on c) os awake)
  watched-but c a' goes = record
      { asleep = λ j out. let o = roused-out (waits_on c) os awake j out in go _ o.0 (watched.asleep j o.1) } where
        go : (o : Option Process) → holds (waits_on c) o ≡ false → IsAsleep a os o → IsAsleep a' os o
        go None out is = tt
        go (Some p) out is = as-still a a' os os p p refl _ (λ w at. goes p w _ (sym (ap (waits_as c) at) ∙ out)) is

  -- open files, pipes and the console may be others
  pub watched-bytes : (a' : State) → a'.ticks ≡ a.ticks → IsWatched a' os (roused (waits_on Bytes) os awake)
  watched-bytes a' ticks = watched-but Bytes a' goes where
    goes : AreOutBut Bytes a a' os
    goes p w Read out none = absurd (true≢false out)
    goes p w Write out none = absurd (true≢false out)
    goes p w Sleep out none = ap (λ n. has_slept n w) ticks ∙ none
    goes p w _ out none = none

  -- the ticks may be others
  pub watched-ticks : (now : ℕ) → IsWatched (record a { ticks = now }) os (roused (waits_on (Ticks now)) os awake)
  watched-ticks now = watched-but (Ticks now) (record a { ticks = now }) goes where
    goes : AreOutBut (Ticks now) a (record a { ticks = now }) os
    goes p w Read out none =
        read-as (seen (record a { ticks = now }) os) (seen a os) refl refl (λ q end. refl) (λ test kind o. refl) p p w
        refl ∙ none
    goes p w Write out none =
        write-as (seen (record a { ticks = now }) os) (seen a os) refl refl (λ q end. refl) (λ test kind o. refl) p p w
        refl ∙ none
    goes p w Sleep out none = out
    goes p w _ out none = none
