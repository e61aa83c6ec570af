-- Whoever may be ready is awake, whatever changes.
use Rattle.kernel.proofs.Common.{Bool, List, None, Option, Some, [], all-set, ap, false, map, option_map, refl, sym}
use Rattle.kernel.proofs.Common.{true, ℕ, ℤ, ◌||◌, ◌∙◌, ◌≡◌, ◌∷◌, zero, suc, option_and_then, slice_set, list_any}
use Rattle.kernel.proofs.Common.{true≢false, target_of, moved, opens_of, awaited_in, seen, IsAsleep, IsWatched}
use Rattle.kernel.proofs.Common.{waits_as, waits_in, waits_on, Bytes, Children, Ticks, Process, is_in, orphaned}
use Rattle.kernel.proofs.Common.{zombie_of, Call, Read, Sleep, Wait, Write, Mode, Waiting, Pending, put, slot, taken}
use Rattle.kernel.proofs.Common.{Console, End, is_end, OnNode, OnPipe, is_zombie_mode, State, has_end, holds, arith}
use Rattle.kernel.proofs.Common.{length, take, ◌+◌, ◌<◌, ◌-◌, ◌≤◌, take_all, kind_of, woken_by, Places, subst, IfNone}
use Rattle.kernel.proofs.Common.{IfSome, Kernel, left_as, on_hart, rest_of, state_of, state_with, waking, IsKernel}
use Rattle.kernel.proofs.Common.{is_at, Keeps, Watches, awaited_of, changed_at, exited, with_mode, ready, Answers, Bor}
use Rattle.kernel.proofs.Common.{FnReturns, Shared, eq-eqb}
use Rattle.files.specs.declared.file.Target.TheVariants as target
use Rattle.kernel.specs.declared.channels.Channel.{Channel}
use Rattle.kernel.proofs.Holding.{orphan-by, slot-map, Opens, Pipes, Processes}
use Rattle.kernel.proofs.Readies.{held-same}
use Rattle.proc.proofs.Waiting.{set-in, set-out}
use Rattle.proc.specs.Places as table
use Rattle.unixmodel.specs.OpenFiles.{OpenFile, Target}
use Rattle.unixmodel.specs.Turn as turn
use Rattle.proc.specs.declared.waits.WaitKind.{WaitKind}
use Rattle.proc.specs.Waits.{IsFirstWaiting, NoneWaits, call_waits, mode_waits, waits_so}
use Rattle.kernel.proofs.Runs.{slot-put}
use Rattle.kernel.proofs.Asleep.{AreStillOut, IsOfKind, IsZombieOnlyIf, MakesNoZombie, StillOut, as-still, child-map}
use Rattle.kernel.proofs.Asleep.{no-zombie, read-as, roused-out, roused-same, still, unready-asleep, watched-bytes}
use Rattle.kernel.proofs.Asleep.{watched-put, watched-running, write-as}
use Rattle.std.proofs.lemmas.Bool.{not-false, not_from_true}
use Rattle.kernel.specs.Watch.{roused}

-- ---- an open file goes on in its file

test-moved : (test : Target → Bool) → IsOfKind test → (offset : ℕ) (files : Opens) (i n : ℕ)
    → turn.holds_of test (slot (opens_of (moved files i offset)) n) ≡ turn.holds_of test (slot (opens_of files) n)
test-moved test kind offset (Some c ∷ files) zero zero = kind offset c.file.target
test-moved test kind offset (o ∷ files) (suc i) (suc n) = test-moved test kind offset files i n
test-moved test kind offset _ _ _ = refl

end-moved : (q : ℕ) (end : End) → IsOfKind (is_end q end)
end-moved q end offset (target.File number old) = refl
end-moved q end offset _ = refl

abbrev any_on : (Target → Bool) → Opens → Bool
any_on test files = list_any (λ (f : OpenFile). test f.target) (taken (opens_of files))

pub any-moved : (test : Target → Bool) → IsOfKind test → (offset : ℕ) (files : Opens) (i : ℕ)
    → any_on test (moved files i offset) ≡ any_on test files
any-moved test kind offset [] i = refl
any-moved test kind offset (None ∷ files) zero = refl
any-moved test kind offset (Some c ∷ files) zero = ap (λ b. b || any_on test files) (kind offset c.file.target)
any-moved test kind offset (None ∷ files) (suc i) = any-moved test kind offset files i
any-moved test kind offset (Some c ∷ files) (suc i) =
    ap (λ b. test (target_of c.file.target) || b) (any-moved test kind offset files i)

module _ (files : Opens) (pipes : Pipes) (console : Console) (ticks : ℕ) (os : Processes) (i offset : ℕ) where
  abbrev before : State
  before = awaited_in (opens_of files) pipes console ticks

  abbrev after : State
  after = awaited_in (opens_of (moved files i offset)) pipes console ticks

  files-moved : (test : Target → Bool) → IsOfKind test → (o : Option ℕ)
      → turn.holds_of test (option_and_then (slot (opens_of (moved files i offset))) o)
      ≡ turn.holds_of test (option_and_then (slot (opens_of files)) o)
  files-moved test kind None = refl
  files-moved test kind (Some n) = test-moved test kind offset files i n

  ends-moved : (q : ℕ) (end : End) → has_end (seen after os) q end ≡ has_end (seen before os) q end
  ends-moved q end = any-moved (is_end q end) (end-moved q end) offset files i

  goes-moved : AreStillOut before after os os
  goes-moved p w Read none = read-as (seen after os) (seen before os) refl refl ends-moved files-moved p p w refl ∙ none
  goes-moved p w Write none = write-as (seen after os) (seen before os) refl refl ends-moved files-moved p p w refl
      ∙ none
  goes-moved p w _ none = none

  pub watched-moved : {awake : List Bool} → IsWatched before os awake → IsWatched after os awake
  watched-moved watched = record { asleep = λ j out. still before after os os goes-moved _ (watched.asleep j out) }

-- ---- bytes were taken from the console

module _ (opens : List (Option OpenFile)) (pipes : Pipes) (console new : Console) (ticks : ℕ) (os : Processes)
    (fewer : turn.is_empty console.committed ≡ true → turn.is_empty new.committed ≡ true) where
  abbrev full : State
  full = awaited_in opens pipes console ticks

  abbrev drained : State
  drained = awaited_in opens pipes new ticks

  file-less : (o : Option OpenFile) → turn.holds_of (turn.can_read_from (seen full os)) o ≡ false
      → turn.holds_of (turn.can_read_from (seen drained os)) o ≡ false
  file-less None none = refl
  file-less (Some f) none = reads-less _ none where
    reads-less : (x : Target) → turn.can_read_from (seen full os) x ≡ false
        → turn.can_read_from (seen drained os) x ≡ false
    reads-less (OnNode n offset) none = not_from_true _ (fewer (not-false _ none))
    reads-less (OnPipe q end) none = none

  writes-same : (x : Target) → turn.can_write_to (seen drained os) x ≡ turn.can_write_to (seen full os) x
  writes-same (OnNode n offset) = refl
  writes-same (OnPipe q end) = refl

  goes-taken : AreStillOut full drained os os
  goes-taken p w Read none = file-less _ none
  goes-taken p w Write none =
      held-same (turn.can_write_to (seen drained os)) (turn.can_write_to (seen full os)) writes-same _ ∙ none
  goes-taken p w _ none = none

  pub watched-taken : {awake : List Bool} → IsWatched full os awake → IsWatched drained os awake
  watched-taken watched = record { asleep = λ j out. still full drained os os goes-taken _ (watched.asleep j out) }

-- ---- a process ended

ended-still : (a : State) (os os' : Processes) (pid : ℕ) (o : Option Process)
    → holds (waits_on Children) (option_map (orphaned pid) o) ≡ false → IsAsleep a os o
    → IsAsleep a os' (option_map (orphaned pid) o)
ended-still a os os' pid None out is = tt
ended-still a os os' pid (Some p) out is =
    orphan-by (λ q. waits_on Children q ≡ false → IsAsleep a os' (Some q)) pid p
    (λ parent out. as-still a a os os' p (record p { parent = parent }) refl p.mode
    (λ w at. goes parent w w.number (sym (ap (waits_as Children) at) ∙ out)) is) out
  where
    goes : (parent : ℕ) (w : Pending) (number : Call) → waits_in Children w number ≡ false
        → StillOut a a os os' p (record p { parent = parent }) w number
    goes parent w Wait out none = absurd (true≢false out)
    goes parent w Read out none =
        read-as (seen a os') (seen a os) refl refl (λ q end. refl) (λ test kind o. refl) (record p { parent = parent })
        p w refl ∙ none
    goes parent w Write out none =
        write-as (seen a os') (seen a os) refl refl (λ q end. refl) (λ test kind o. refl)
        (record p { parent = parent }) p w refl ∙ none
    goes parent w _ out none = none

-- q, which is put in place i, has ended
abbrev left_by : Processes → ℕ → Process → ℤ → Processes
left_by os i q status = put (map (option_map (orphaned q.pid)) (put os i q)) i (zombie_of q status)

-- the process that was in slot i has no part in it
left-is : (os : Processes) (i : ℕ) (q : Process) (status : ℤ)
    → left_by os i q status ≡ put (map (option_map (orphaned q.pid)) os) i (zombie_of q status)
left-is [] i q status = refl
left-is (o ∷ os) zero q status = refl
left-is (o ∷ os) (suc i) q status = ap (λ ys. option_map (orphaned q.pid) o ∷ ys) (left-is os i q status)

module _ {a : State} {os : Processes} {awake : List Bool} (watched : IsWatched a os awake) (i : ℕ) (q : Process)
    (status : ℤ) where
  abbrev left : Processes
  left = put (map (option_map (orphaned q.pid)) os) i (zombie_of q status)

  each : (j : ℕ) → is_in awake j ≡ false → holds (waits_on Children) (slot left j) ≡ false
      → IsAsleep a left (slot left j)
  each = all-set (λ j o. is_in awake j ≡ false → holds (waits_on Children) o ≡ false → IsAsleep a left o)
      (map (option_map (orphaned q.pid)) os) i (Some (zombie_of q status)) (λ out woken. tt)
      (λ j out. rw (slot-map (orphaned q.pid) os j)
      (λ woken. ended-still a os left q.pid (slot os j) woken (watched.asleep j out)))

  pub watched-ended : IsWatched a (left_by os i q status) (roused (waits_on Children) (left_by os i q status) awake)
  watched-ended = rw (left-is os i q status)
      (record { asleep = λ j out. let o = roused-out (waits_on Children) left awake j out in each j o.1 o.0 })

-- ---- who waits on a channel is woken, one after the other: who doesn't wait for the channel's kind of event doesn't
-- wait on the channel

call-silent : (channel : Channel) (w : Pending) (number : Call) → call_waits (kind_of channel) number ≡ false
    → waits_in channel w number ≡ false
call-silent (Ticks now) w Sleep no' = absurd (cc)
call-silent (Ticks now) w _ no' = refl
call-silent Bytes w Read no' = absurd (cc)
call-silent Bytes w Write no' = absurd (cc)
call-silent Bytes w _ no' = refl
call-silent Children w Wait no' = absurd (cc)
call-silent Children w _ no' = refl

mode-silent : (channel : Channel) (mode : Mode) → mode_waits (kind_of channel) mode ≡ false
    → waits_as channel mode ≡ false
mode-silent channel (Waiting w) no' = call-silent _ w _ no'
mode-silent channel _ no' = refl

silent : (channel : Channel) (o : Option Process) → holds (waits_so (kind_of channel)) o ≡ false
    → holds (waits_on channel) o ≡ false
silent channel None no' = refl
silent channel (Some p) no' = mode-silent _ _ no'

-- ---- slots that are passed over

-- d slots, of which none passes
roused-up : (test : Process → Bool) (os : Processes) (bs : List Bool) (d from to : ℕ) → to ≡ from + d → to ≤ length os
    → ((j : ℕ) → from ≤ j → j < to → holds test (slot os j) ≡ false)
    → roused test (take from os) bs ≡ roused test (take to os) bs
roused-up test os bs zero from to e low none = let same : from ≡ to =
    omega (arith, e) in ap (λ k. roused test (take k os) bs) same
roused-up test os bs (suc d) from to e low none =
    roused-same test os bs from (omega (arith, e)) (none from (omega arith) (omega (arith, e)))
    ∙ roused-up test os bs d (from + 1) to (omega (arith, e)) low (λ j more less. none j (omega arith) less)

-- ---- a table in which who waits on a channel is woken

module _ (channel : Channel) (t : Places) where
  abbrev with_awake : List Bool → Places
  with_awake awake = record t { awake = awake }

  -- those in the first n slots are awake
  abbrev pub Roused : ℕ → Places → Type 0
  Roused from now = now ≡ record t { awake = roused (waits_on channel) (take from t.places) t.awake }

  pub roused-begins : Roused 0 t
  unfolding roused
  roused-begins = refl

  places-of : (from : ℕ) (now : Places) → Roused from now → now.places ≡ t.places
  places-of from now is = ap (λ (x : Places). x.places) is

  pub roused-low : (from at : ℕ) (now : Places) → Roused from now → length now.places ≡ 64 → at < 64
      → at < length t.places
  roused-low from at now is all low = let same : length now.places ≡ length t.places =
      ap length (places-of from now is) in omega arith

  -- none of those that are passed over waits so
  roused-over : (kind : WaitKind) (from at : ℕ) (now : Places) → kind ≡ kind_of channel → Roused from now
      → length now.places ≡ 64 → from ≤ at → at ≤ 64
      → ((j : ℕ) → from ≤ j → j < at → holds (waits_so kind) (slot now.places j) ≡ false) → Roused at now
  roused-over kind from at now kinds is all up low none =
      let same : length now.places ≡ length t.places = ap length (places-of from now is) in
      is ∙ ap with_awake (roused-up (waits_on channel) t.places t.awake (at - from) from at (omega arith) (omega arith)
      (λ j more less. silent _ _
      (ap (λ k. holds (waits_so k) (slot t.places j)) (sym kinds)
      ∙ ap (λ (os : Processes). holds (waits_so kind) (slot os j)) (sym (places-of from now is))
      ∙ none j more less)))

  pub roused-to : (kind : WaitKind) (from at : ℕ) (now : Places) → kind ≡ kind_of channel → Roused from now
      → length now.places ≡ 64 → IsFirstWaiting now.places kind from at → Roused at now
  roused-to kind from at now kinds is all first = let inside =
      first.in_places in roused-over kind from at now kinds is all inside.0 (omega arith) first.before

  pub roused-rest : (kind : WaitKind) (from : ℕ) (now : Places) → kind ≡ kind_of channel → from ≤ 64 → Roused from now
      → length now.places ≡ 64 → NoneWaits now.places kind from → now ≡ woken_by channel t
  roused-rest kind from now kinds low is all rest =
      let same : length now.places ≡ length t.places = ap length (places-of from now is) in
      roused-over kind from 64 now kinds is all low (omega arith) rest
      ∙ ap (λ (os : Processes). with_awake (roused (waits_on channel) os t.awake))
      (take_all 64 t.places (omega arith))

-- ---- the mask has no part in the rest

pub state-waking : (k : Kernel) (awake : List Bool) → state_of (waking k awake) ≡ state_of k
state-waking k awake = go _ where
  go : (o : Option ℕ) → state_with (changed_at (record k.table { awake = awake }) (on_hart k.spaces) o) k.spaces.places
      (rest_of k) ≡ state_with (changed_at k.table (on_hart k.spaces) o) k.spaces.places (rest_of k)
  go None = refl
  go (Some i) = refl

pub kernel-waking : {k : Kernel} → IsKernel k → (awake : List Bool) → IsKernel (waking k awake)
kernel-waking is awake =
    record {
      all = is.all;
      spaces = is.spaces;
      stands = is.stands;
      runs = is.runs;
      fits = is.fits;
      opened = is.opened;
      used = is.used;
    }

-- a kernel that differs in its mask alone
pub state-but : {new : Kernel} (k : Kernel) → new ≡ waking k new.table.awake → state_of new ≡ state_of k
state-but {new} k same = ap state_of same ∙ state-waking k _

-- ---- the console and the ticks

pub typed-kernel : {k : Kernel} → IsKernel k → (console : Console) (ticks : ℕ)
    → IsKernel (record k { console = console; ticks = ticks })
typed-kernel is console ticks =
    record {
      all = is.all;
      spaces = is.spaces;
      stands = is.stands;
      runs = is.runs;
      fits = is.fits;
      opened = is.opened;
      used = is.used;
    }

-- ---- the running process

pub running-at : {k : Kernel} → IsKernel k → (i : ℕ) → k.spaces.active ≡ Some i
    → holds table.is_running (slot k.table.places i) ≡ true
running-at is i active = is.runs i ∙ ap (is_at i) active ∙ eq-eqb i i refl

pub left-watched : {k : Kernel} → IsKernel k → Watches k → (i : ℕ) (mode : Mode) → k.spaces.active ≡ Some i
    → is_zombie_mode mode ≡ false → Watches (left_as k i mode)
left-watched {k} is watched i mode active lives =
    watched-running watched i (λ p. with_mode mode (on_hart k.spaces p)) (running-at is i active) (no-zombie mode lives)

-- ---- a process that is woken as it changes

module _ {a : State} {os : Processes} {awake : List Bool} (watched : IsWatched a os awake) where
  pub watched-roused : (i : ℕ) (o : Option Process) → IsZombieOnlyIf o (slot os i)
      → IsWatched a (slice_set os i o) (slice_set awake i true)
  watched-roused i o zombies =
      watched-put (record { asleep = λ j out. watched.asleep j (set-out awake i j out) }) i o zombies
      (λ out. absurd (true≢false (sym (set-in awake i) ∙ out)))

  pub watched-changed : (i : ℕ) (f : Process → Process) → MakesNoZombie f
      → IsWatched a (slice_set os i (option_map f (slot os i))) (slice_set awake i true)
  watched-changed i f zombies = watched-roused i (option_map f (slot os i)) (child-map f zombies (slot os i))

-- ---- a turn

pub picked-places : (old new : Places) (result : Option ℕ)
    → IfSome result (λ i. new ≡ record old { last = i; awake = new.awake })
    → IfNone result (new ≡ record old { awake = new.awake }) → new.places ≡ old.places
picked-places old new None picked none = ap (λ (t : Places). t.places) none
picked-places old new (Some i) picked none = ap (λ (t : Places). t.places) picked

module _ {F : Type 0} (g : Shared F (Bor Processes × (ℕ × Unit {0})) Bool) (f : F) {k : Kernel} (is : IsKernel k)
    (idle : k.spaces.active ≡ None)
    (tells : (shown : Bor Processes) (i : ℕ) (b : Bool) → FnReturns g f (shown, (i, tt)) b
    → b ≡ ready (seen (awaited_of k) shown.now) i) where
  -- a pick leaves those awake who are ready
  pub watched-picked : (t : Places) → t.places ≡ k.table.places
      → ((i : ℕ) → is_in t.awake i ≡ false → Answers g f k.table.places i false) → Keeps (record k { table = t })
  watched-picked t same no' = record {
    sound = (let s = subst (λ (os : Processes). IsKernel (record k { table = record k.table { places = os } }))
        (sym same) is in
        record {
          all = s.all;
          spaces = s.spaces;
          stands = s.stands;
          runs = s.runs;
          fits = s.fits;
          opened = s.opened;
          used = s.used;
        });
    watched = record {
      asleep = λ j out.
          let answer = no' j out in
          let unready : ready (seen (awaited_of k) k.table.places) j ≡ false =
          sym (tells answer.shown j false answer.says
          ∙ ap (λ os. ready (seen (awaited_of k) os) j) answer.shows) in
          subst (λ os. IsAsleep (awaited_of k) os (slot os j)) (sym same)
          (unready-asleep (awaited_of k) k.table.places j (is.runs j ∙ ap (is_at j) idle) unready);
    };
  }

-- ---- the end of a process

-- the exit of process q, which is put in slot i, wakes its parent; what it closes wakes readers and writers
pub finish-watched : {a : State} (t : Places) → IsWatched a t.places t.awake → (i : ℕ) (q : Process) (status : ℤ)
    → i < length t.places → (a' : State) → a'.ticks ≡ a.ticks
    → (new : Places) → new ≡ exited (record t { places = put t.places i q }) i status
    → IsWatched a' new.places (roused (waits_on Bytes) new.places (roused (waits_on Children) new.places new.awake))
finish-watched {a} t watched i q status low a' ticks new is =
    subst (λ (x : Places). IsWatched a' x.places
    (roused (waits_on Bytes) x.places (roused (waits_on Children) x.places x.awake)))
    (sym (is ∙ ap (table.ended (record t { places = put t.places i q }) i status)
    (slot-put t.places i (Some q) low)))
    (watched-bytes (watched-ended watched i q status) a' ticks)
