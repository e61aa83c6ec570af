-- Processes with their spaces change and are searched as the processes alone; what open files and descriptors name.
use Rattle.kernel.proofs.Common.{Bool, List, None, Ok, Option, Some, [], cond, drop, false, is_none, is_some, length}
use Rattle.kernel.proofs.Common.{map, nat_le, not, option_map, position, slice_set, suc, true, zero, ℕ, ℤ, ◌&&◌, ◌+◌}
use Rattle.kernel.proofs.Common.{◌<◌, ◌≡◌, ◌≤◌, ◌==◌, ◌∷◌, prefix_len, ap, arith, refl, nat_tests, position-Some}
use Rattle.kernel.proofs.Common.{joined, space_in, with_space, with_table, Process, Places, changed, place_where}
use Rattle.kernel.proofs.Common.{SpaceView, free_slot, put, slot, has_child, zombie_child, State, change_process, holds}
use Rattle.kernel.proofs.Common.{unwrap_or, no_pages, ◌≢◌, subst, sym, ◌∙◌, IfSome, option_and_then, sum_by-cons}
use Rattle.kernel.proofs.Common.{IsCounted, descriptors_in, named_by, names_in, Kernel, on_hart, slot-within}
use Rattle.kernel.proofs.Common.{IsOpenFile, IsOpened, WaitsWell, is_awaited, is_on_pipe, names, count_of, names-clear}
use Rattle.kernel.proofs.Common.{file_of, Counted, count_at, count_in, file_at, more, opens_of, shared, all-set}
use Rattle.kernel.proofs.Common.{slot-opens, changed_at, Spaces, Call, Read, Write, Mode, Running, Waiting, Pending}
use Rattle.kernel.proofs.Common.{taken, low, pending_arg, one_at-self}
use Rattle.proc.specs.Places as table
use Rattle.unixmodel.specs.Outcome as ends
use Rattle.unixmodel.specs.Process as unix
use Rattle.kernel.proofs.Holding.{least, map-same, same-set, Fds, Opens, Pipes, Processes, Views}
use Rattle.files.proofs.Whole as counts
use Rattle.files.specs.declared.file.OpenFile.{OpenFile}
use Rattle.files.specs.declared.file.Target.{Target}
use Rattle.unixmodel.specs.OpenFiles as unix_files
use Rattle.unixmodel.specs.Files.{free_slots}
use Rattle.kernel.specs.Sound.{IsAwaiting, IsForBytes, IsForPipe, IsFresh, WaitsAs, file_named}

-- ---- one slot

pub length-joined : (os : Processes) (hs : Views) → length (joined os hs) ≡ length os
unfolding joined
length-joined [] hs = refl
length-joined (o ∷ os) hs = ap suc (length-joined os (drop 1 hs))

pub slot-joined : (os : Processes) (hs : Views) (i : ℕ)
    → slot (joined os hs) i ≡ option_map (with_space (space_in hs i)) (slot os i)
unfolding joined
slot-joined [] hs i = refl
slot-joined (o ∷ os) hs zero = refl
slot-joined (o ∷ os) [] (suc i) = slot-joined os [] i
slot-joined (o ∷ os) (h ∷ hs) (suc i) = slot-joined os hs i

-- a slot gets another process and another space, or none
pub put-joined : (os : Processes) (hs : Views) (i : ℕ) (o : Option Process) (q : Option SpaceView) → i < length hs
    → slice_set (joined os hs) i (option_map (with_space (unwrap_or q no_pages)) o)
    ≡ joined (slice_set os i o) (slice_set hs i q)
unfolding joined
put-joined [] hs i o q low = refl
put-joined (x ∷ os) [] i o q low = absurd (omega arith)
put-joined (x ∷ os) (g ∷ hs) zero o q low = refl
put-joined (x ∷ os) (g ∷ hs) (suc i) o q low =
    ap (λ ys. option_map (with_space (space_in (g ∷ hs) 0)) x ∷ ys) (put-joined os hs i o q (omega arith))

-- a process that keeps its space goes back to its slot
pub put_kept-joined : (os : Processes) (hs : Views) (i : ℕ) (p : Process)
    → put (joined os hs) i (with_space (space_in hs i) p) ≡ joined (put os i p) hs
unfolding joined
put_kept-joined [] hs i p = refl
put_kept-joined (o ∷ os) hs zero p = refl
put_kept-joined (o ∷ os) [] (suc i) p =
    ap (λ qs. option_map (with_space (space_in [] 0)) o ∷ qs) (put_kept-joined os [] i p)
put_kept-joined (o ∷ os) (h ∷ hs) (suc i) p =
    ap (λ qs. option_map (with_space (space_in (h ∷ hs) 0)) o ∷ qs) (put_kept-joined os hs i p)

-- ---- free slots

pub joined-free_slots : (n : ℕ) (hs : Views) → joined (free_slots n) hs ≡ free_slots n
unfolding joined free_slots
joined-free_slots zero hs = refl
joined-free_slots (suc n) hs = ap (λ qs. None ∷ qs) (joined-free_slots n (drop 1 hs))

pub seat_of-first : (last pid : ℕ) (awake : List Bool) → pid ≤ 2147483647
    → table.seat_of (record { places = free_slots 64; last = last; next_pid = pid; awake = awake })
    ≡ Ok (record { place = 0; pid = pid })
unfolding free_slots
seat_of-first last pid awake h = let fits : nat_le pid 2147483647 ≡ true = grind (arith, nat_tests) in rw fits refl

-- ---- a change that leaves the space as it is

-- the change is the same with a space and without
abbrev pub IsSameChange : (unix.Process → unix.Process) → (Process → Process) → Type 0
IsSameChange whole part = (h : SpaceView) (p : Process) → whole (with_space h p) ≡ with_space h (part p)

module _ (whole : unix.Process → unix.Process) (part : Process → Process) (same : IsSameChange whole part) where
  option_map-with_space : (h : SpaceView) (o : Option Process)
      → option_map whole (option_map (with_space h) o) ≡ option_map (with_space h) (option_map part o)
  option_map-with_space h None = refl
  option_map-with_space h (Some p) = ap Some (same h p)

  pub map-joined : (os : Processes) (hs : Views)
      → map (option_map whole) (joined os hs) ≡ joined (map (option_map part) os) hs
  unfolding joined
  map-joined [] hs = refl
  map-joined (o ∷ os) hs =
      rw (option_map-with_space (space_in hs 0) o)
      (ap (λ qs. option_map (with_space (space_in hs 0)) (option_map part o) ∷ qs) (map-joined os (drop 1 hs)))

  pub set-joined : (os : Processes) (hs : Views) (i : ℕ)
      → slice_set (joined os hs) i (option_map whole (slot (joined os hs) i))
      ≡ joined (slice_set os i (option_map part (slot os i))) hs
  unfolding joined
  set-joined [] hs i = refl
  set-joined (o ∷ os) hs zero = ap (λ q. q ∷ joined os (drop 1 hs)) (option_map-with_space _ o)
  set-joined (o ∷ os) hs (suc i) =
      ap (λ qs. option_map (with_space (space_in hs 0)) o ∷ qs) (set-joined os (drop 1 hs) i)

  pub change_process-with_table : (s : State) (t : Places) (hs : Views) (i : ℕ)
      → change_process (with_table s t hs) i whole ≡ with_table s (changed t i part) hs
  change_process-with_table s t hs i =
      ap (λ places. record (with_table s t hs) { places = places }) (set-joined t.places hs i)

-- ---- a search

-- the test gives the same result with a space and without
abbrev pub IsSameTest : (unix.Process → Bool) → (Process → Bool) → Type 0
IsSameTest whole part = (h : SpaceView) (p : Process) → whole (with_space h p) ≡ part p

module _ (whole : Option unix.Process → Bool) (part : Option Process → Bool)
    (same : (h : SpaceView) (o : Option Process) → whole (option_map (with_space h) o) ≡ part o) where
  prefix_len-joined : (os : Processes) (hs : Views)
      → prefix_len (λ o. not (whole o)) (joined os hs) ≡ prefix_len (λ o. not (part o)) os
  unfolding joined
  prefix_len-joined [] hs = refl
  prefix_len-joined (o ∷ os) hs =
      rw (same (space_in hs 0) o) (ap (λ n. cond (not (part o)) (1 + n) 0) (prefix_len-joined os (drop 1 hs)))

  pub position-joined : (os : Processes) (hs : Views) → position whole (joined os hs) ≡ position part os
  position-joined os hs = rw (prefix_len-joined os hs, length-joined os hs) refl

holds-with_space : (whole : unix.Process → Bool) (part : Process → Bool) → IsSameTest whole part
    → (h : SpaceView) (o : Option Process) → holds whole (option_map (with_space h) o) ≡ holds part o
holds-with_space whole part same h None = refl
holds-with_space whole part same h (Some p) = same h p

pub place_where-joined : (whole : unix.Process → Bool) (part : Process → Bool) → IsSameTest whole part
    → (os : Processes) (hs : Views) → position (holds whole) (joined os hs) ≡ place_where os part
place_where-joined whole part same os hs = position-joined _ _ (holds-with_space whole part same) os hs

is_none-with_space : (h : SpaceView) (o : Option Process) → is_none (option_map (with_space h) o) ≡ is_none o
is_none-with_space h None = refl
is_none-with_space h (Some p) = refl

pub free_slot-joined : (os : Processes) (hs : Views) → free_slot (joined os hs) ≡ free_slot os
free_slot-joined os hs = position-joined _ _ is_none-with_space os hs

some_that_holds : (test : Process → Bool) (o : Option Process) → holds test o ≡ true
    → (p : Process) × ((o ≡ Some p) × (test p ≡ true))
some_that_holds test None h = cc
some_that_holds test (Some p) h = (p, (refl, h))

-- the slot that a search finds has a process that passes
pub place_where-Some : (test : Process → Bool) (os : Processes) (i : ℕ) → place_where os test ≡ Some i
    → (p : Process) × ((slot os i ≡ Some p) × (test p ≡ true))
place_where-Some test os i h = some_that_holds test _ (position-Some (holds test) os i None h).1

-- ---- the state's words

module _ (s : State) (t : Places) (hs : Views) where
  pub has_child-with_table : (pid : ℕ)
      → has_child (with_table s t hs) pid ≡ is_some (place_where t.places (table.is_child_of pid))
  has_child-with_table pid =
      ap is_some (place_where-joined (unix.is_child_of pid) (table.is_child_of pid) (λ h p. refl) t.places hs)

  pub zombie_child-with_table : (pid : ℕ) → zombie_child (with_table s t hs) pid ≡ table.zombie_place t pid
  zombie_child-with_table pid =
      place_where-joined (λ q. unix.is_child_of pid q && unix.is_zombie q) (table.is_zombie_child_of pid) (λ h p. refl)
      t.places hs

  -- ---- the end of a process

  orphaned_whole : (pid : ℕ) → IsSameChange (ends.orphaned pid) (table.orphaned pid)
  orphaned_whole pid h p =
      elim (p.parent == pid) as
      (λ b. cond b (record (with_space h p) { parent = 1 }) (with_space h p)
      ≡ with_space h (cond b (record p { parent = 1 }) p)) [ true ↦ refl | false ↦ refl ]

  -- process p of slot i has ended
  pub with_zombie-with_table : (i : ℕ) (p : Process) (status : ℤ)
      → ends.with_zombie (with_table s t hs) i (with_space (space_in hs i) p) status
      ≡ record (with_table s (table.ended t i status (Some p)) hs)
      { halted = ends.halt_status s (with_space (space_in hs i) p) status }
  with_zombie-with_table i p status =
      ap (λ places. record (with_table s t hs)
      { places = places; halted = ends.halt_status s (with_space (space_in hs i) p) status })
      (rw (map-joined (ends.orphaned p.pid) (table.orphaned p.pid) (orphaned_whole p.pid) t.places hs)
      (put_kept-joined (map (option_map (table.orphaned p.pid)) t.places) hs i (table.zombie_of p status)))

-- ---- the open files of a kernel where the descriptors of its processes stay, and what a descriptor names

-- ---- who waits in a read or a write

-- a process that runs doesn't wait
pub waits-running : (opens : Opens) (p : Process) → p.mode ≡ Running → WaitsWell opens (Some p)
waits-running opens p runs = rw runs tt

-- a call that is neither a read nor a write
pub waits-other : (opens : Opens) (ds : Fds) (w : Pending) (call : Call) → call ≢ Read → call ≢ Write → w.number ≡ call
    → IsAwaiting opens ds w
waits-other opens ds w call reads writes number = record {
  write = λ write. absurd (writes (sym number ∙ write));
  read = λ read. absurd (reads (sym number ∙ read));
  fresh = λ read. absurd (reads (sym number ∙ read));
}

-- a read
pub waits-reading : (opens : Opens) (ds : Fds) (w : Pending) → w.number ≡ Read → IsForBytes opens ds w
    → IsFresh opens ds w → IsAwaiting opens ds w
waits-reading opens ds w number for fresh = record { write = λ write. absurd (cc); read = for; fresh = fresh }

-- a write
pub waits-writing : (opens : Opens) (ds : Fds) (w : Pending) → w.number ≡ Write → IsForPipe opens ds w
    → IsAwaiting opens ds w
waits-writing opens ds w number for = record { write = for; read = λ read. absurd (cc); fresh = λ read. absurd (cc) }

-- an open file is awaited as another one is
pub record IsAlike (f g : OpenFile) : Type 0 where
  pub pipe : is_on_pipe g.target ≡ is_on_pipe f.target
  pub awaited : is_awaited g.target ≡ is_awaited f.target

pub alike-same : (f : OpenFile) → IsAlike f f
alike-same f = record { pipe = refl; awaited = refl }

-- what is named was there, or was awaited alike
abbrev pub WasAlike : Opens → ℕ → OpenFile → Type 0
WasAlike opens n f = (g : OpenFile) × ((file_at opens n ≡ Some g) × IsAlike g f)

module _ (opens new : Opens) (ds : Fds)
    (each : (d n : ℕ) (f : OpenFile) → slot ds d ≡ Some n → file_at new n ≡ Some f → WasAlike opens n f) where
  module _ (P : OpenFile → Type 0) (alike : (f g : OpenFile) → IsAlike f g → P f → P g) (d : ℕ) where
    kept-file : (n : ℕ) → slot ds d ≡ Some n → (o : Option OpenFile) → file_at new n ≡ o → IfSome (file_at opens n) P
        → IfSome o P
    kept-file n named None at is = tt
    kept-file n named (Some f) at is = let was =
        each d n f named at in alike was.0 f was.1.1 (subst (λ o. IfSome o P) was.1.0 is)

    kept-named : (o : Option ℕ) → slot ds d ≡ o → IfSome (option_and_then (file_at opens) o) P
        → IfSome (option_and_then (file_at new) o) P
    kept-named None named is = tt
    kept-named (Some n) named is = kept-file n named _ refl is

  kept-mode : (mode : Mode) → WaitsAs opens ds mode → WaitsAs new ds mode
  kept-mode (Waiting w) is =
      let d = low (pending_arg w 0) in
      record {
        write = λ write. kept-named (λ f. is_on_pipe f.target ≡ true) (λ f g same on. same.pipe ∙ on) d _ refl
            (is.write write);
        read = λ read. kept-named (λ f. is_awaited f.target ≡ true) (λ f g same on. same.awaited ∙ on) d _ refl
            (is.read read);
        fresh = λ read. kept-named (λ f. is_on_pipe f.target ≡ true → w.done ≡ 0)
            (λ f g same fresh on. fresh (sym same.pipe ∙ on)) d _ refl (is.fresh read);
      }
  kept-mode _ is = tt

-- where no open file is added that its descriptors name
pub waits-kept : (opens new : Opens) (o : Option Process)
    → ((d n : ℕ) (f : OpenFile) → slot (descriptors_in o) d ≡ Some n → file_at new n ≡ Some f → WasAlike opens n f)
    → WaitsWell opens o → WaitsWell new o
waits-kept opens new None each is = tt
waits-kept opens new (Some p) each is = kept-mode opens new _ each _ is

-- where no open file is added
pub waits-fewer : (opens new : Opens) → ((n : ℕ) (f : OpenFile) → file_at new n ≡ Some f → file_at opens n ≡ Some f)
    → (o : Option Process) → WaitsWell opens o → WaitsWell new o
waits-fewer opens new each o is = waits-kept opens new o (λ d n f named at. (f, (each n f at, alike-same f))) is

-- ---- open files that stay

module _ (files : Opens) (pipes : Pipes) (os : Processes) where
  pub opened-names : (i : ℕ) (o : Option Process) → ((n : ℕ) → names_in n o ≡ names_in n (slot os i))
      → WaitsWell files o → IsOpened files pipes os → IsOpened files pipes (slice_set os i o)
  opened-names i o same well is = record {
    table = is.table;
    counted = λ n. is.counted n ∙ sym (same-set _ os i o (same n));
    each = is.each;
    all = is.all;
    piped = is.piped;
    waits = all-set (λ j. WaitsWell files) os i o well is.waits;
  }

  -- a process with the same descriptors
  pub opened-put : (i : ℕ) (o : Option Process) → descriptors_in o ≡ descriptors_in (slot os i) → WaitsWell files o
      → IsOpened files pipes os → IsOpened files pipes (slice_set os i o)
  opened-put i o same well is = opened-names i o (λ n. ap (names n) same) well is

hart-waits : (opens : Opens) (s : Spaces) (o : Option Process) → WaitsWell opens o
    → WaitsWell opens (option_map (on_hart s) o)
hart-waits opens s None is = tt
hart-waits opens s (Some p) is = is

pub opened-active : (k : Kernel) (files : Opens) (pipes : Pipes) (o : Option ℕ) → IsOpened files pipes k.table.places
    → IsOpened files pipes (changed_at k.table (on_hart k.spaces) o).places
opened-active k files pipes None is = is
opened-active k files pipes (Some i) is =
    opened-put files pipes _ i _ (map-same descriptors_in (on_hart k.spaces) (λ p. refl) (slot k.table.places i))
    (hart-waits files k.spaces _ (is.waits i)) is

-- what holds of each slot's process, and of the running one with the hart's registers
pub active-by : (P : ℕ → Option Process → Type 0) (k : Kernel)
    → ((j : ℕ) (o : Option Process) → P j o → P j (option_map (on_hart k.spaces) o)) → (a : Option ℕ)
    → ((j : ℕ) → P j (slot k.table.places j)) → (j : ℕ) → P j (slot (changed_at k.table (on_hart k.spaces) a).places j)
active-by P k step None is = is
active-by P k step (Some i) is = all-set P _ i _ (step i (slot k.table.places i) (is i)) is

pub active-same : {X : Type 0} (f : Option Process → X) (k : Kernel)
    → ((p : Process) → f (Some (on_hart k.spaces p)) ≡ f (Some p)) → (a : Option ℕ) (j : ℕ)
    → f (slot (changed_at k.table (on_hart k.spaces) a).places j) ≡ f (slot k.table.places j)
active-same f k same a =
    active-by (λ j o. f o ≡ f (slot k.table.places j)) k (λ j o e. map-same f (on_hart k.spaces) same o ∙ e) a
    (λ j. refl)

-- the processes with their spaces name the same
pub count-joined : (os : Processes) (hs : Views) (n : ℕ) → count_of (joined os hs) n ≡ named_by os n
unfolding joined
count-joined [] hs n = refl
count-joined (None ∷ os) hs n =
    omega (
      arith,
      sum_by-cons (counts.names_in n) None (joined os (drop 1 hs)),
      count-joined os (drop 1 hs) n,
      sum_by-cons (names_in n) None os,
    )
count-joined (Some p ∷ os) hs n =
    sum_by-cons (counts.names_in n) (Some (with_space (space_in hs 0) p)) (joined os (drop 1 hs))
    ∙ ap (λ (m : ℕ). names n p.descriptors + m) (count-joined os (drop 1 hs) n)
    ∙ sym (sum_by-cons (names_in n) (Some p) os)

-- no more slots are taken than there are
pub few-taken : {X : Type 0} (xs : List (Option X)) → length (taken xs) ≤ length xs
few-taken [] = omega arith
few-taken (None ∷ xs) = omega (arith, few-taken xs)
few-taken (Some x ∷ xs) = omega (arith, few-taken xs)

-- ---- what a descriptor names

-- a descriptor of a process of the abstract Unix names an open file
pub record IsNamed (s : State) (p : unix.Process) (d : ℕ) (f : unix_files.OpenFile) : Type 0 where
  pub number : ℕ
  pub named : slot p.descriptors d ≡ Some number
  pub opened : slot s.opens number ≡ Some f

-- what a descriptor of a process names is counted
pub place-counts : (files : Opens) (os : Processes) → IsCounted files os → (i : ℕ) (o : Option Process) → slot os i ≡ o
    → (d n : ℕ) → slot (descriptors_in o) d ≡ Some n → 0 < count_at files n
place-counts files os counted i None at d n named = absurd (cc)
place-counts files os counted i (Some p) at d n named =
    omega (
      arith,
      counted n,
      least (names_in n) os i p at,
      names-clear n _ d n (slot-within _ d n named) named,
      one_at-self n,
    )

module _ (files : Opens) (pipes : Pipes) (os : Processes) (is : IsOpened files pipes os) where
  open-go : (n : ℕ) (o : Option Counted) → slot files n ≡ o → 0 < count_in o
      → (f : unix_files.OpenFile) × ((slot (opens_of files) n ≡ Some f) × IsOpenFile f)
  open-go n None at some = absurd (omega (arith, some))
  open-go n (Some c) at some =
      let there : slot (opens_of files) n ≡ Some (file_of c.file) = slot-opens files n
      ∙ ap (option_map (λ (x : Counted). file_of x.file)) at in
      (file_of c.file, (there, is.each n (file_of c.file) there))

  -- what a descriptor of a process names is open
  pub open-named : (i : ℕ) (p : Process) (d n : ℕ) → slot os i ≡ Some p → slot p.descriptors d ≡ Some n
      → (f : unix_files.OpenFile) × ((slot (opens_of files) n ≡ Some f) × IsOpenFile f)
  open-named i p d n at named =
      open-go n _ refl (place-counts files os is.counted i _ at d n named)

-- ---- what a descriptor names

-- descriptor d names an open file on t
pub record IsFileAt (opens : Opens) (ds : Fds) (d : ℕ) (t : Target) : Type 0 where
  pub number : ℕ
  pub file : OpenFile
  pub named : slot ds d ≡ Some number
  pub opened : file_at opens number ≡ Some file
  pub on : file.target ≡ t

module _ (opens : Opens) (ds : Fds) (d : ℕ) (t : Target) where
  file-in : (n : ℕ) (o : Option OpenFile) → slot ds d ≡ Some n → file_at opens n ≡ o
      → option_map (λ (f : OpenFile). f.target) o ≡ Some t → IsFileAt opens ds d t
  file-in n None named at is = absurd (cc)
  file-in n (Some f) named at is = record { number = n; file = f; named = named; opened = at; on = cc }

  file-go : (o : Option ℕ) → slot ds d ≡ o
      → option_map (λ (f : OpenFile). f.target) (option_and_then (file_at opens) o) ≡ Some t → IsFileAt opens ds d t
  file-go None named is = absurd (cc)
  file-go (Some n) named is = file-in n _ named refl is

  pub file-at : option_map (λ (f : OpenFile). f.target) (file_named opens ds d) ≡ Some t → IsFileAt opens ds d t
  file-at is = file-go _ refl is

-- one descriptor more names it, and it is as it was
pub file-shared : (opens : Opens) (i n : ℕ) → file_at (shared opens i) n ≡ file_at opens n
file-shared opens i = all-set (λ n o. option_map (λ (c : Counted). c.file) o ≡ file_at opens n) opens i _
    (map-same (option_map (λ (c : Counted). c.file)) more (λ c. refl) _) (λ n. refl)
