-- The program of a file, and its plan.
use Rattle.programs.proofs.Common.{◌*◌, ◌+◌, ◌++◌, ◌<◌, ◌^◌, ap, arith, Err, false, length, List, None, Ok, Option}
use Rattle.programs.proofs.Common.{refl, Result, Some, subst, sym, take, true, ℕ, ◌∙◌, ◌≡◌, ◌≤◌, none-some, same_Some}
use Rattle.programs.proofs.Common.{option_map, headers_by, loads-header, header_in, header_of, is_within, ElfFault}
use Rattle.programs.proofs.Common.{FileHeader, InodeStat, has_space, no_pages, Spaces, SpaceView, view_at, with_view}
use Rattle.programs.proofs.Common.{FileTree, Serves, IsFile, File, Memory, Loaded, loaded_of, nothing_loaded}
use Rattle.programs.proofs.Common.{load_segments, bytes_or_none, file_at, program_in, unless_refused, stacked, HasRoom}
use Rattle.programs.proofs.Common.{IsPaged, paged, Program, [], length-append, ◌∷◌, cond_some, option_and_then}
use Rattle.programs.proofs.Common.{taken_frames, page_frames, Files, Node, slot, zero_page, number_at, round_down, Plan}
use Rattle.programs.proofs.Common.{Stack, stack_marks, plan, push, push_pointers, push_strings, with_args, with_stack}
use Rattle.programs.proofs.Common.{file_bytes, args_at, TellsProgram, Passes, plan_with, Arguments}
use Rattle.programs.proofs.Headings.{IsHeaded, is-headed, none-of}
use Rattle.programs.proofs.Reading.{HasSeen, IsKept, kept-file, kept-one}
use Rattle.programs.proofs.Places.{has-held, held-twice, is-held, paged-held, room-held, length-write}
use Rattle.programs.proofs.Loads.{Last}
use Rattle.programs.specs.Executed.{IsExecuted, frames_beside, plan_at}

-- ---- a whole program

-- the program that was read of a file
pub record IsProgram (file : List ℕ) (program : Program) : Type 0 where
  pub loaded : Loaded
  pub is : loaded_of file ≡ Some loaded
  pub read : program.header ≡ header_in file
  pub pages : length loaded.pages ≡ program.pages
  pub loads : load_segments file program.header.count program.header.program_headers nothing_loaded ≡ Some loaded
  pub within : is_within program.header.program_headers (56 * program.header.count) (length file) ≡ true

pub is-program : (file : List ℕ) (program : Program) → program_in file ≡ Some program → IsProgram file program
is-program file program some = go (loaded_of file) (header_of (take 64 file) (length file)) refl refl some where
  go : (o : Option Loaded) (r : Result FileHeader ElfFault) → loaded_of file ≡ o
      → header_of (take 64 file) (length file) ≡ r
      → option_map (λ (l : Loaded). let p : Program = record { header = header_in file; pages = length l.pages } in p)
      o ≡ Some program → IsProgram file program
  go None r is head made = absurd (none-some program made)
  go (Some l) (Err fault) is head made = absurd (none-some l (sym (loads-header file ∙ ap (headers_by file) head) ∙ is))
  go (Some l) (Ok h) is head made =
      let same = same_Some (record { header = header_in file; pages = length l.pages }) program made in
      let headed-by = is-headed file h (ap unless_refused head) in
      let read : header_in file ≡ program.header = ap (λ (p : Program). p.header) same in
      let by : IsHeaded file program.header = subst (IsHeaded file) (headed-by.read ∙ read) headed-by in
      record {
        loaded = l;
        is = is;
        read = sym read;
        pages = ap (λ (p : Program). p.pages) same;
        loads = sym (loads-header file ∙ ap (headers_by file) by.is) ∙ is;
        within = by.within;
      }

module _ {old mid : FileTree} {number : ℕ} {stat : InodeStat} (file : IsFile old.files number)
    (serves : Serves old mid (Ok stat) (HasSeen old mid number)) where
  pub stat-kept : IsKept old mid
  stat-kept = kept-one serves.told.0 serves

  pub stat-long : stat.size ≡ length (file_at mid.files number)
  stat-long = (serves.told.1 (File file.links file.bytes) file.here).2
      ∙ ap (λ o. length (bytes_or_none o)) (sym file.here) ∙ ap length (sym (kept-file stat-kept _))

  module _ {program : Program} (is : IsProgram (file_at old.files number) program) where
    pub header-still : is_within program.header.program_headers (56 * program.header.count)
        (length (file_at mid.files number)) ≡ true
    header-still = rw (kept-file stat-kept number) is.within

    loads-still : load_segments (file_at mid.files number) program.header.count program.header.program_headers
        nothing_loaded ≡ Some is.loaded
    loads-still = rw (kept-file stat-kept number) is.loads

    module _ (s : Spaces) {s1 : Spaces} (at : ℕ) (cleared : s1 ≡ with_view s at no_pages) where
      pub last-still : program.pages < 2 ^ 32 → HasRoom s at (program.pages + 2)
          → Last s1 at (file_at mid.files number) program.header.count program.header.program_headers
      last-still few room = (
        is.loaded,
        loads-still,
        omega (arith, few, is.pages),
        room-held s at _ cleared (omega (arith, is.pages)) room,
      )

      module _ (has : has_space s at ≡ true) {s2 : Spaces}
          (put : (l : Loaded) → load_segments (file_at mid.files number) program.header.count
          program.header.program_headers nothing_loaded ≡ Some l → s2 ≡ with_view s1 at (paged l.pages)) where
        all-put : s2 ≡ with_view s at (paged is.loaded.pages)
        all-put = put is.loaded loads-still ∙ ap (λ (k : Spaces). with_view k at (paged is.loaded.pages)) cleared
            ∙ held-twice s at _ _

        held-put : view_at s2 at ≡ paged is.loaded.pages
        held-put = is-held s at all-put has

        -- a stack may follow them
        pub stack-fits : HasRoom s at (program.pages + 2)
            → (has_space s2 at ≡ true) × IsPaged (view_at s2 at) × HasRoom s2 at (length (view_at s2 at).memory + 2)
        stack-fits room =
            let long : length (view_at s2 at).memory ≡ program.pages = ap (λ (h : SpaceView). length h.memory) held-put
            ∙ is.pages in (
              has-held s at _ all-put has,
              paged-held s at _ all-put has,
              room-held s at _ all-put (omega (arith, long)) room,
            )

        pub stack-put : {s3 : Spaces} (page : List ℕ)
            → s3 ≡ with_view s2 at (paged (stacked (view_at s2 at).memory page)) → (l : Loaded)
            → loaded_of (file_at old.files number) ≡ Some l → s3 ≡ with_view s at (paged (stacked l.pages page))
        stack-put page stack l loaded =
            let same : is.loaded ≡ l = same_Some is.loaded l (sym is.is ∙ loaded) in
            stack
            ∙ ap (λ (h : SpaceView). with_view s2 at (paged (stacked h.memory page))) held-put
            ∙ ap (λ (k : Spaces). with_view k at (paged (stacked is.loaded.pages page))) all-put
            ∙ held-twice s at _ _
            ∙ ap (λ (x : Loaded). with_view s at (paged (stacked x.pages page))) same

-- ---- how many pages a plan has

push-long : (s : Stack) (bytes : List ℕ) → length (push s bytes).memory ≡ length s.memory
unfolding push
push-long s bytes = length-write _ _ _

strings-long : (s : Stack) (args : List (List ℕ)) → length (push_strings s args).memory ≡ length s.memory
unfolding push_strings
strings-long s [] = refl
strings-long s (x ∷ xs) = strings-long (push s (x ++ 0 ∷ [])) xs ∙ push-long s (x ++ 0 ∷ [])

pointers-long : (s : Stack) → length (push_pointers s).memory ≡ length s.memory
unfolding push_pointers
pointers-long s = push-long s _

pub args-long : (pages : Memory) (pc : ℕ) (args : List (List ℕ)) (new : Plan) → with_args pages pc args ≡ Some new
    → length new.memory ≡ length pages + 2
unfolding with_args with_stack
args-long pages pc args new is =
    ap (λ (x : Plan). length x.memory) (sym (cond_some _ _ _ is).1)
    ∙ pointers-long _
    ∙ strings-long _ _
    ∙ length-append pages (zero_page (stack_marks false) ∷ zero_page (stack_marks true) ∷ [])

pub length-stacked : (pages : Memory) (page : List ℕ) → length (stacked pages page) ≡ length pages + 2
length-stacked pages page =
    length-append pages (zero_page (stack_marks false) ∷ record { bytes = page; marks = stack_marks true } ∷ [])

-- ---- the plan of a program

module _ (file : List ℕ) where
  pub no-plan : program_in file ≡ None → (o : Option (List (List ℕ))) → option_and_then (plan file) o ≡ None
  unfolding plan
  no-plan none None = refl
  no-plan none (Some args) =
      ap (option_and_then (λ (l : Loaded). with_args l.pages (round_down (number_at 8 24 file) 4) args))
      (none-of _ (loaded_of file) none)

  module _ (program : Program) (is : IsProgram file program) where
    pub plan-is : (o : Option (List (List ℕ)))
        → option_and_then (plan file) o ≡ option_and_then (with_args is.loaded.pages program.header.entry) o
    unfolding plan
    plan-is None = refl
    plan-is (Some args) =
        ap (option_and_then (λ (l : Loaded). with_args l.pages (round_down (number_at 8 24 file) 4) args)) is.is
        ∙ ap (λ pc. with_args is.loaded.pages pc args) (sym (ap (λ h. h.entry) is.read))

    plan-long : (o : Option (List (List ℕ))) (new : Plan)
        → option_and_then (with_args is.loaded.pages program.header.entry) o ≡ Some new
        → length new.memory ≡ program.pages + 2
    plan-long None new e = absurd (none-some new e)
    plan-long (Some args) new e = args-long _ _ _ _ e ∙ ap (λ n. n + 2) is.pages

-- ---- the file

-- a number has a program
pub record HasProgram (files : Files) (n : ℕ) (program : Program) : Type 0 where
  pub file : IsFile files n
  pub bytes : file_bytes (slot files n) ≡ Some (file_at files n)
  pub program_is : program_in (file_at files n) ≡ Some program
  pub is : IsProgram (file_at files n) program

pub has-program : (files : Files) (n : ℕ) (program : Program)
    → option_and_then program_in (file_bytes (slot files n)) ≡ Some program → HasProgram files n program
has-program files n program some = go (slot files n) refl some where
  go : (o : Option Node) → slot files n ≡ o → option_and_then program_in (file_bytes o) ≡ Some program
      → HasProgram files n program
  go (Some (File links bytes)) here is =
      let made : program_in (file_at files n) ≡ Some program = rw here is in
      record {
        file = record { links = links; bytes = bytes; here = here };
        bytes = rw here refl;
        program_is = made;
        is = is-program _ _ made;
      }
  go o here is = absurd (none-some program is)

module _ {old mid : FileTree} (number : ℕ) {told : Option Program}
    (serves : Serves old mid (Ok told)
    (TellsProgram old mid (option_and_then program_in (file_bytes (slot old.files number))))) where
  pub program-none : told ≡ None → (mem : Memory) (argv : ℕ) → plan_at old.files number mem argv ≡ None
  program-none none mem argv = go (file_bytes (slot old.files number)) (sym serves.told.0.value ∙ none) where
    go : (o : Option (List ℕ)) → option_and_then program_in o ≡ None
        → option_and_then (λ file. option_and_then (plan file) (args_at mem argv)) o ≡ None
    go None e = refl
    go (Some file) e = no-plan file e _

  pub program-of : {program : Program} → told ≡ Some program → HasProgram old.files number program
  program-of {program} some = has-program _ _ _ (sym serves.told.0.value ∙ some)

  pub program-kept : IsKept old mid
  program-kept = kept-one serves.told.0.same serves

  module _ {program : Program} (of : HasProgram old.files number program) where
    pub program-there : program_in (file_at mid.files number) ≡ Some program
    program-there = ap program_in (kept-file program-kept _) ∙ of.program_is

    pub loaded-there : loaded_of (file_at mid.files number) ≡ Some of.is.loaded
    loaded-there = ap loaded_of (kept-file program-kept _) ∙ of.is.is

module _ {files : Files} {n : ℕ} {program : Program} (of : HasProgram files n program) (s : Spaces) (at argv : ℕ) where
  abbrev mem : Memory
  mem = (view_at s at).memory

  planned : plan_at files n mem argv
      ≡ option_and_then (with_args of.is.loaded.pages program.header.entry) (args_at mem argv)
  planned = ap (option_and_then (λ file. option_and_then (plan file) (args_at mem argv))) of.bytes
      ∙ plan-is (file_at files n) program of.is _

  passed : (told : Option Arguments) → Passes mem argv program.pages told
      → plan_at files n mem argv ≡ option_map (plan_with of.is.loaded.pages program.header.entry) told
  passed told passes = planned ∙ passes of.is.loaded.pages program.header.entry of.is.pages

  -- the frames don't suffice
  pub over-frames : {frames free : ℕ} → frames ≡ 3 + page_frames (program.pages + 2) → free + taken_frames s ≡ s.frames
      → free < frames → (p : Plan) → plan_at files n mem argv ≡ Some p → s.frames < frames_beside s p
  over-frames are left over p is =
      let long : length p.memory ≡ program.pages + 2 =
      plan-long (file_at files n) program of.is _ p (sym planned ∙ is) in
      subst (λ k. s.frames < taken_frames s + 3 + page_frames k) (sym long) (omega (arith, are, left, over))

  -- the arguments can't be passed
  pub not-passed : Passes mem argv program.pages None → (p : Plan) → plan_at files n mem argv ≡ Some p
      → s.frames < frames_beside s p
  not-passed passes p is = absurd (none-some p (sym (passed None passes) ∙ is))

  -- it is executed
  pub is-executed : {new : Spaces} {a : Arguments} {frames free : ℕ} → Passes mem argv program.pages (Some a)
      → frames ≡ 3 + page_frames (program.pages + 2) → free + taken_frames s ≡ s.frames → frames ≤ free
      → new ≡ with_view s at (paged (stacked of.is.loaded.pages a.page))
      → IsExecuted (plan_at files n mem argv) s new
      at (record { pc = program.header.entry; count = a.count; sp = a.sp })
  is-executed {a} passes are left enough put =
      let pages = of.is.loaded.pages in
      let long : length (stacked pages a.page) ≡ program.pages + 2 = length-stacked _ _ ∙ ap (λ k. k + 2) of.is.pages in
      let whole : 4096 * length (stacked pages a.page) ≡ 4096 * (length pages + 2) =
      ap (λ k. 4096 * k) (length-stacked _ _) in
      record {
        plan = plan_with pages program.header.entry a;
        is = passed (Some a) passes;
        fits = subst (λ k. taken_frames s + 3 + page_frames k ≤ s.frames) (sym long) (omega (arith, are, left, enough));
        held = put ∙ ap (λ k. with_view s
            at (let h : SpaceView = record { memory = stacked pages a.page; size = k } in h)) whole;
        started = refl;
      }
