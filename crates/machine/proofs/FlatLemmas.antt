-- A flat program's stack, and the state and the kernel that begin with it.
use Rattle.machine.proofs.Common.{[], all_in, alone, ap, arith, ceil_div, count_at, count_in, Counted, false, file_of}
use Rattle.machine.proofs.Common.{Files, files_on, FileTree, first, first_kernel, first_process, first_state, FitsNode}
use Rattle.machine.proofs.Common.{flat_space, free_slots, holders, holds, home_in, homes_at, if_fits, IfOk, IfSome}
use Rattle.machine.proofs.Common.{is_running, is_some, IsCounted, IsFlat, IsFolder, IsInUse, IsKernel, IsOpened}
use Rattle.machine.proofs.Common.{IsOpenFile, IsPlace, IsPlaced, joined, joined-free_slots, le, length, length-append}
use Rattle.machine.proofs.Common.{length-replicate, List, named_by, names, names-free, names_in, nat_tests, node_in}
use Rattle.machine.proofs.Common.{node_of, node_on, None, none-some, Ok, one_in, opened, opens_of, Option, option_map}
use Rattle.machine.proofs.Common.{page_frames, pages_of, place_for, Plan, Process, refl, replicate, Result, round_down}
use Rattle.machine.proofs.Common.{same_Some, seated, slot, slot-opens, Some, SpaceView, stack_marks, stacked, State}
use Rattle.machine.proofs.Common.{state_of, subst, suc, sum_by, sum_by-cons, sum_by-replicate, sym, taken_frames, true}
use Rattle.machine.proofs.Common.{WaitsWell, with_args, with_hold, write_bytes, zero, zeros, ℕ, ◌*◌, ◌+◌, ◌-◌, ◌<◌}
use Rattle.machine.proofs.Common.{◌==◌, ◌∙◌, ◌∷◌, ◌≡◌, ◌≢◌, ◌≤◌}
use Rattle.unixmodel.specs.Plan.{plan_flat, push, push_pointers, push_strings, with_stack}
use Rattle.unixmodel.specs.Memory.{Memory, overwrite, Perm, zero_page}
use Rattle.std.proofs.lemmas.Bool.{le-leb, lt-leb}
use Rattle.spaces.specs.Spaces.{frames_in}
use Rattle.unixmodel.specs.Start.{flat_descriptors, flat_files, flat_opens, start_flat}
use Rattle.unixmodel.specs.Counts.{blocks_of, frames_of}
use Rattle.machine.specs.Flat.{bare_plan, console_file, first_files, first_table, first_tree, flat_memory}
use Rattle.std.proofs.Common.{ap₂, get_or, nat_le}
use Rattle.files.specs.declared.file.OpenFile.{OpenFile}
use Rattle.files.specs.declared.table.FileFault.{FileFault}
use Rattle.kernel.specs.Kernel.{begun as begun_by}
use Rattle.programs.proofs.Headings.{length-pages}
use Rattle.programs.proofs.Stacks.{write-stack}
use Rattle.unixmodel.specs.OpenFiles as unix_files
use Rattle.unixmodel.specs.Process as unix

-- ---- the stack of a program without arguments

-- the 0 word that ends the list of no arguments
zero-word : overwrite (zeros 4096) 4080 (le 8 0) ≡ zeros 4096
unfolding zeros
zero-word = refl

bare-stack : (pages : Memory)
    → write_bytes (with_stack pages) (4096 * (length pages + 2) - 16) (le 8 0) ≡ with_stack pages
unfolding with_stack
bare-stack pages =
    let at : 4096 * (length pages + 2) - 16 ≡ 4096 * (length pages + 1) + 4080 = omega arith in
    ap (λ a. write_bytes (stacked pages (zeros 4096)) a (le 8 0))
    at ∙ write-stack pages (zeros 4096) 4080 (le 8 0) (omega arith) (omega arith) ∙ ap (stacked pages) zero-word

above : (size n : ℕ) → size ≡ 4096 * (n + 2) → nat_le (size - 4096) (size - 16) ≡ true
above size n is = le-leb (size - 4096) (size - 16) (omega (arith, is))

bare : (pages : Memory) → with_args pages 0 [] ≡ Some (bare_plan (with_stack pages) (4096 * (length pages + 2)))
unfolding with_args push_pointers push_strings push
bare pages =
    let sp : round_down (4096 * (length pages + 2) - 8) 16 ≡ 4096 * (length pages + 2) - 16 = omega arith in
    rw (sp, above (4096 * (length pages + 2)) (length pages) refl, bare-stack pages) refl

length-with_stack : (pages : Memory) → length (with_stack pages) ≡ length pages + 2
unfolding with_stack
length-with_stack pages = length-append pages (zero_page (stack_marks false) ∷ zero_page (stack_marks true) ∷ [])

abbrev pub all_marks : Perm
all_marks = record { writable = true; executable = true; user = true; shared = false }

abbrev pub program_pages : List ℕ → ℕ
program_pages bytes = ceil_div (length bytes) 4096

abbrev pub flat_pages : List ℕ → Memory
flat_pages bytes = pages_of all_marks (program_pages bytes) bytes

pub length-flat : (bytes : List ℕ) → length (flat_memory bytes) ≡ program_pages bytes + 2
length-flat bytes = length-with_stack (flat_pages bytes)
    ∙ ap (λ n. n + 2) (length-pages all_marks (program_pages bytes) bytes)

pub plan-is : (bytes : List ℕ)
    → plan_flat bytes ≡ Some (bare_plan (flat_memory bytes) (4096 * length (flat_memory bytes)))
unfolding plan_flat
plan-is bytes = bare (flat_pages bytes)
    ∙ ap (λ n. Some (bare_plan (with_stack (flat_pages bytes)) (4096 * n))) (sym (length-with_stack (flat_pages bytes)))

-- ---- the first state

pub same-past : (X : Type 0) (d : X) (n i : ℕ) → get_or (replicate n d) i d ≡ d
same-past X d zero i = refl
same-past X d (suc n) zero = refl
same-past X d (suc n) (suc i) = same-past X d n i

pub none-free : (X : Type 0) (f : Option X → ℕ) → f None ≡ 0 → (n : ℕ) → sum_by f (replicate n None) ≡ 0
none-free X f none zero = refl
none-free X f none (suc n) = omega (arith, sum_by-cons f None (replicate n None), none, none-free X f none n)

pub no-frames : (n : ℕ) → sum_by frames_in (replicate n None) ≡ 0
no-frames n = none-free SpaceView frames_in refl n

pub taken-alone : (frames : ℕ) (h : SpaceView) → taken_frames (alone frames h) ≡ 4 + page_frames (length h.memory)
taken-alone frames h = omega (arith, sum_by-cons frames_in (Some h) (replicate 63 None), no-frames 63)

-- the state that process 1 begins with over a space
abbrev begun : ℕ → SpaceView → State
begun frames h = first_state flat_files 27 frames flat_opens
    (first_process (bare_plan h.memory h.size) flat_descriptors)

-- a first state takes the frames of its space
module _ (files : Files) (limit frames : ℕ) (opens : List (Option unix_files.OpenFile)) (new : Plan)
    (descriptors : List (Option ℕ)) where
  abbrev fresh : State
  fresh = first_state files limit frames opens (first_process new descriptors)

  frames-fresh : frames_of fresh ≡ 4 + page_frames (length new.memory)
  unfolding frames_of free_slots
  frames-fresh = omega arith

  pub fresh-fits : 4 + page_frames (length new.memory) ≤ frames → if_fits fresh ≡ Some fresh
  fresh-fits fits = let within : nat_le (frames_of fresh) frames ≡ true =
      rw frames-fresh (le-leb _ _ fits) in rw within refl

  pub fresh-over : frames < 4 + page_frames (length new.memory) → if_fits fresh ≡ None
  fresh-over over = let without : nat_le (frames_of fresh) frames ≡ false =
      rw frames-fresh (lt-leb _ _ over) in rw without refl

abbrev flat_plan : List ℕ → Plan
flat_plan bytes = bare_plan (flat_memory bytes) (4096 * length (flat_memory bytes))

starts : (bytes : List ℕ) (frames : ℕ) → start_flat bytes frames ≡ if_fits (begun frames (flat_space bytes))
unfolding start_flat
starts bytes frames = rw (plan-is bytes) refl

module _ {tree : FileTree} (flat : IsFlat tree) where
  state-first : (frames : ℕ) (h : SpaceView) → state_of (first_kernel tree frames h) ≡ begun frames h
  unfolding joined flat_opens free_slots
  state-first frames h =
      rw (flat.files, flat.limit)
      (ap (λ (places : List (Option unix.Process)). record (begun frames h)
      { places = Some (first_process (bare_plan h.memory h.size) flat_descriptors) ∷ places })
      (joined-free_slots 63 (replicate 63 None)))

  pub start-fits : (bytes : List ℕ) (frames : ℕ) → 4 + page_frames (length (flat_memory bytes)) ≤ frames
      → start_flat bytes frames ≡ Some (state_of (first_kernel tree frames (flat_space bytes)))
  start-fits bytes frames fits = starts bytes frames
      ∙ fresh-fits flat_files 27 frames flat_opens (flat_plan bytes) flat_descriptors fits
      ∙ ap Some (sym (state-first frames (flat_space bytes)))

pub start-over : (bytes : List ℕ) (frames : ℕ) → frames < 4 + page_frames (length (flat_memory bytes))
    → start_flat bytes frames ≡ None
start-over bytes frames over = starts bytes frames
    ∙ fresh-over flat_files 27 frames flat_opens (flat_plan bytes) flat_descriptors over

-- ---- the first kernel

first-placed : (h : SpaceView) → IsPlaced (first h.size) h
unfolding flat_descriptors free_slots zeros
first-placed h = record { zero = refl; aligned = refl; mode = record { descriptors = refl } }

-- what holds of a process and of a free slot holds of each slot, where the process is alone in the first
pub first-alone : (P : Option Process → Type 0) (p : Process) → P (Some p) → P None → (i : ℕ)
    → P (slot (Some p ∷ free_slots 63) i)
unfolding free_slots
first-alone P p here free zero = here
first-alone P p here free (suc i) = subst P (sym (same-past (Option Process) None 63 i)) free

-- such a process makes a kernel
pub one-sound : (tree : FileTree) (p : Process) (h : SpaceView) (frames : ℕ) (opens : List (Option Counted))
    → IsPlaced p h → is_running p ≡ false → 4 + page_frames (length h.memory) ≤ frames
    → IsOpened opens (replicate 100 None) (Some p ∷ free_slots 63) → IsInUse tree opens (Some p ∷ free_slots 63)
    → IsKernel (begun_by tree
    (record { places = Some p ∷ free_slots 63; last = 63; next_pid = 2; awake = all_in 64 }) (alone frames h) opens)
unfolding free_slots
one-sound tree p h frames opens placed rests fits opened used = record {
  all = ap suc (length-replicate {A = Option Process} 63 None);
  spaces = ap suc (length-replicate {A = Option SpaceView} 63 None);
  stands = stands;
  runs = first-alone (λ o. holds is_running o ≡ false) p rests refl;
  fits = rw (taken-alone frames h) fits;
  opened = opened;
  used = λ up. used;
} where
  stands : (i : ℕ) → IsPlace (slot (Some p ∷ replicate 63 None) i) (slot (Some h ∷ replicate 63 None) i)
  stands zero = placed
  stands (suc i) = rw (same-past (Option Process) None 63 i, same-past (Option SpaceView) None 63 i) tt

-- that works in the root
pub one-home : (p : Process) → home_in (Some p) ≡ Some 1 → (n : ℕ)
    → homes_at (Some p ∷ free_slots 63) n ≡ one_in n (Some 1)
unfolding free_slots
one-home p home n =
    let rest = none-free Process (λ o. one_in n (home_in o)) refl 63 in
    omega (arith, sum_by-cons (λ o. one_in n (home_in o)) (Some p) (replicate 63 None), ap (one_in n) home, rest)

-- ---- the first open files

-- the console takes the first slot
pub open-first : (t new : List (Option Counted)) (r : Result ℕ FileFault) (f : OpenFile) → t ≡ free_slots 100
    → r ≡ place_for (opens_of t) → IfOk r (λ i. new ≡ opened t i f)
    → new ≡ Some (record { file = f; count = 1 }) ∷ replicate 99 None
unfolding free_slots
open-first t new r f is place ok =
    let first : r ≡ Ok 0 = place ∙ ap (λ (x : List (Option Counted)). place_for (opens_of x)) is in
    let made : new ≡ opened t 0 f = rw first at ok in
    made ∙ ap (λ (x : List (Option Counted)). opened x 0 f) is

names-first : (n : ℕ) → names n flat_descriptors ≡ 3 * one_in n (Some 0)
unfolding flat_descriptors
names-first n =
    omega (
      arith,
      sum_by-cons (one_in n) (Some 0) (Some 0 ∷ Some 0 ∷ free_slots 13),
      sum_by-cons (one_in n) (Some 0) (Some 0 ∷ free_slots 13),
      sum_by-cons (one_in n) (Some 0) (free_slots 13),
      names-free n 13,
    )

named-first : (size n : ℕ) → named_by (first_table size).places n ≡ 3 * one_in n (Some 0)
unfolding free_slots
named-first size n = omega (
  arith,
  sum_by-cons (names_in n) (Some (first size)) (replicate 63 None),
  sum_by-replicate (names_in n) 63 None,
  names-first n,
)

other-file : (n : ℕ) → one_in (suc n) (Some 0) ≡ 0
other-file n = let other : (0 == suc n) ≡ false = grind (arith, nat_tests) in rw other refl

first-counted : (size : ℕ) → IsCounted first_files (first_table size).places
first-counted size zero = omega (arith, named-first size 0)
first-counted size (suc n) = let none : count_at first_files (suc n) ≡ 0 =
    ap count_in (same-past (Option Counted) None 99 n) in omega (arith, none, named-first size (suc n), other-file n)

first-named : (i : ℕ) (c : Counted) → slot first_files i ≡ Some c → 0 < c.count
first-named zero c at = let three : 3 ≡ c.count = ap count_in at in omega (arith, three)
first-named (suc i) c at = absurd (let bad : None ≡ Some c = sym (same-past (Option Counted) None 99 i) ∙ at in cc)

first-each : (n : ℕ) (f : unix_files.OpenFile) → slot (opens_of first_files) n ≡ Some f → IsOpenFile f
first-each zero f at = let e : file_of console_file ≡ f = cc in subst IsOpenFile e tt
first-each (suc n) f at =
    absurd (let bad : None ≡ Some f = sym
    (slot-opens first_files (suc n)
    ∙ ap (option_map (λ (c : Counted). file_of c.file)) (same-past (Option Counted) None 99 n)) ∙ at in cc)

first-opened : (size : ℕ) → IsOpened first_files (replicate 100 None) (first_table size).places
first-opened size = record {
  table = record { all = ap suc (length-replicate {A = Option Counted} 99 None); named = first-named };
  counted = first-counted size;
  each = first-each;
  all = length-replicate {A = Option (List ℕ)} 100 None;
  piped = λ q. ap is_some (same-past (Option (List ℕ)) None 100 q);
  waits = first-alone (WaitsWell first_files) (first size) tt tt;
}

-- ---- who holds the root and the console

console-on : (n : ℕ) → files_on first_files n ≡ one_in n (Some 2)
console-on n = let rest =
    none-free Counted (λ o. one_in n (node_in o)) refl 99
    in omega (
      arith,
      sum_by-cons (λ o. one_in n (node_in o)) (Some (record { file = console_file; count = 3 }))
          (replicate 99 None),
      rest,
    )

first-holders : (n : ℕ) → holders (with_hold (with_hold (replicate 16 0) 1) 2) n ≡ one_in n (Some 2) + one_in n (Some 1)
first-holders zero = refl
first-holders (suc zero) = refl
first-holders (suc (suc zero)) = refl
first-holders (suc (suc (suc n))) =
    let console : (2 == suc (suc (suc n))) ≡ false = grind (arith, nat_tests) in
    let root : (1 == suc (suc (suc n))) ≡ false = grind (arith, nat_tests) in
    rw (console, root) (same-past ℕ 0 13 n)

flat-zero : slot flat_files 0 ≡ None
unfolding flat_files free_slots
flat-zero = refl

flat-blocks : blocks_of flat_files ≡ 1
unfolding blocks_of flat_files free_slots
flat-blocks = refl

module _ {tree : FileTree} (flat : IsFlat tree) where
  first-fits : (k : ℕ) (c : Counted) → slot first_files k ≡ Some c
      → FitsNode c.file c.file.target (node_of tree.files (node_on c.file.target))
  unfolding flat_files free_slots
  first-fits zero c at = let e : record { file = console_file; count = 3 } ≡ c =
      same_Some (record { file = console_file; count = 3 }) c
      at in subst (λ (d : Counted). FitsNode d.file d.file.target (node_of tree.files (node_on d.file.target))) e
      (rw flat.files refl)
  first-fits (suc k) c at = absurd (none-some c (sym (same-past (Option Counted) None 99 k) ∙ at))

  first-homes : (size i : ℕ) → IfSome (home_in (slot (first_table size).places i)) (λ d. IsFolder (slot tree.files d))
  unfolding flat_files free_slots
  first-homes size = first-alone (λ o. IfSome (home_in o) (λ d. IsFolder (slot tree.files d))) (first size)
      (rw flat.files tt) tt

  first-used : (size : ℕ) → IsInUse (first_tree tree) first_files (first_table size).places
  first-used size = record {
    rules = flat.rules;
    zero = ap (λ (files : Files). slot files 0) flat.files ∙ flat-zero;
    within = rw (flat.files, flat.limit, flat-blocks) (omega arith);
    holds = λ n. ap (λ h. holders (with_hold (with_hold h 1) 2) n) flat.holds ∙ first-holders n
        ∙ sym (ap₂ ◌+◌ (console-on n) (one-home (first size) refl n));
    held = λ n node at bare. absurd (let some = flat.linked n node at in omega (arith, some, bare));
    fits = first-fits;
    homes = first-homes size;
  }

  -- what the holds require
  pub hold-root : slot tree.files 1 ≢ None
  unfolding flat_files free_slots
  hold-root none = absurd (let bad : slot flat_files 1 ≡ None = ap (λ (files : Files). slot files 1) (sym flat.files)
      ∙ none in cc)

  pub hold-console : slot tree.files 2 ≢ None
  unfolding flat_files free_slots
  hold-console none = absurd
      (let bad : slot flat_files 2 ≡ None = ap (λ (files : Files). slot files 2) (sym flat.files) ∙ none in cc)

  pub few-root : holders tree.holds 1 < 65535
  few-root = rw flat.holds (omega arith)

  pub few-console : holders (with_hold tree.holds 1) 2 < 65535
  few-console = rw flat.holds (omega arith)

  pub first-sound : (frames : ℕ) (h : SpaceView) → 4 + page_frames (length h.memory) ≤ frames
      → IsKernel (first_kernel tree frames h)
  first-sound frames h fits =
      one-sound (first_tree tree) (first h.size) h frames first_files (first-placed h) refl fits (first-opened h.size)
      (first-used h.size)

pub one-seated : (p : Process)
    → seated (record { places = free_slots 64; last = 63; next_pid = 1; awake = all_in 64 }) p
    (record { place = 0; pid = 1 })
    ≡ record { places = Some (record p { pid = 1 }) ∷ free_slots 63; last = 63; next_pid = 2; awake = all_in 64 }
unfolding free_slots
one-seated p = refl
