-- /init is read and put into its slot, and the machine boots from an image.
use Rattle.machine.proofs.Common.{[], alone, ap, arith, BootFault, Err, Files, FileTree, find, FrameCount, has_space}
use Rattle.machine.proofs.Common.{IfErr, IfOk, IfSome, init_path, is_some, IsErrOf, IsMounted, IsSome, IsUnbooted}
use Rattle.machine.proofs.Common.{IsUnmounted, KeepsTree, le_trans, length, List, Loaded, loaded_of, no_pages}
use Rattle.machine.proofs.Common.{no_spaces, Node, NoInit, NoMemory, None, none-some, number_at, Ok, Option}
use Rattle.machine.proofs.Common.{option_and_then, option_map, page_frames, PassesOne, Plan, plan, plan_with, refl}
use Rattle.machine.proofs.Common.{Result, same_Some, Serves, slot, Some, Spaces, SpaceView, stacked, subst, sym}
use Rattle.machine.proofs.Common.{taken_frames, true, View, with_args, with_place, with_view, ℕ, ◌%◌, ◌*◌, ◌++◌, ◌+◌}
use Rattle.machine.proofs.Common.{◌/◌, ◌<◌, ◌^◌, ◌↔◌, ◌∙◌, ◌∷◌, ◌≡◌, ◌≤◌, ◌⊎◌}
use Rattle.unixmodel.specs.Start.{init_plan, start}
use Rattle.machine.specs.declared.image_boot.Init.{Init}
use Rattle.machine.specs.Booted.{boot_fault, FindsInit, IsAccepted, IsBegun, IsBooted, IsInit, IsInPlace, IsNotBegun}
use Rattle.machine.specs.Booted.{LacksInit}
use Rattle.machine.proofs.FlatSpaces.{alone-space, created, outside}
use Rattle.machine.proofs.FlatLemmas.{no-frames}
use Rattle.calls.proofs.Opens.{some-there}
use Rattle.name_rules.proofs.Finding.{find-used}
use Rattle.programs.proofs.Plans.{IsProgram, is-program, HasProgram, args-long, has-program, length-stacked, no-plan}
use Rattle.programs.proofs.Plans.{plan-is}
use Rattle.programs.proofs.Headings.{serves-told}
use Rattle.programs.specs.declared.arguments.Arguments.{Arguments}
use Rattle.programs.specs.declared.headers.Program.{Program}
use Rattle.programs.specs.Headed.{IsRead, file_at, program_in}
use Rattle.programs.specs.Placed.{HasRoom, Leaves, paged}
use Rattle.tree.specs.Written.{IsFile}
use Rattle.unixmodel.specs.ProcessCalls.{file_bytes}
use Rattle.imagecheck.specs.declared.ImageFault.{ImageFault}
use Rattle.imagecheck.specs.declared.ImageFault.TheVariants as fault
use Rattle.machine.specs.declared.fault.BootFault.TheVariants.{Device, Image}

-- ---- what process 1 executes of /init, and how it is put into the first slot

-- ---- the plan of /init

abbrev plan_of : Option (List ℕ) → Option Plan
plan_of = option_and_then (λ file. plan file (init_path ∷ []))

-- the plan is that of the file that the path finds
plan_found : (files : Files) (n : ℕ) → find files 1 init_path ≡ Some n
    → init_plan files ≡ plan_of (file_bytes (slot files n))
unfolding init_plan
plan_found files n found = ap (λ o. plan_of (option_and_then (λ m. file_bytes (slot files m)) o)) found

pub plan-lost : (files : Files) → find files 1 init_path ≡ None → init_plan files ≡ None
unfolding init_plan
plan-lost files none = ap (λ o. plan_of (option_and_then (λ m. file_bytes (slot files m)) o)) none

no-program : (o : Option (List ℕ)) → option_and_then program_in o ≡ None → plan_of o ≡ None
no-program None none = refl
no-program (Some file) none = no-plan file none (Some (init_path ∷ []))

pub plan-none : (files : Files) (n : ℕ) → find files 1 init_path ≡ Some n
    → option_and_then program_in (file_bytes (slot files n)) ≡ None → init_plan files ≡ None
plan-none files n found none = plan_found files n found ∙ no-program (file_bytes (slot files n)) none

module _ (files : Files) (n : ℕ) (program : Program) (found : find files 1 init_path ≡ Some n)
    (has : HasProgram files n program) where
  abbrev is : IsProgram (file_at files n) program
  is = has.is

  planned : init_plan files ≡ with_args is.loaded.pages program.header.entry (init_path ∷ [])
  planned = plan_found files n found ∙ ap plan_of has.bytes
      ∙ plan-is (file_at files n) program is (Some (init_path ∷ []))

  plan-passed : (told : Option Arguments) → PassesOne (init_path ++ 0 ∷ []) program.pages told → (l : Loaded)
      → loaded_of (file_at files n) ≡ Some l
      → init_plan files ≡ option_map (plan_with l.pages program.header.entry) told
  plan-passed told passes l loaded =
      planned
      ∙ passes init_path refl is.loaded.pages program.header.entry is.pages
      ∙ ap (λ (x : Loaded). option_map (plan_with x.pages program.header.entry) told)
      (same_Some is.loaded l (sym is.is ∙ loaded))

  -- the frames don't suffice for its pages
  too-long : (frames : ℕ) → frames < 4 + page_frames (program.pages + 2) → LacksInit files frames
  too-long frames over p planned-as =
      let long : length p.memory ≡ program.pages + 2 =
      args-long is.loaded.pages program.header.entry (init_path ∷ []) p (sym planned ∙ planned-as)
      ∙ ap (λ n. n + 2) is.pages in
      rw long over

-- ---- reading it

abbrev Resolves : FileTree → FileTree → Option ℕ → Type 0
Resolves old mid number = (mid ≡ record old { failures = mid.failures }) × (number ≡ find old.files 1 init_path)

abbrev Programs : FileTree → FileTree → ℕ → Option Program → Type 0
Programs mid new n told = IsRead mid new told (option_and_then program_in (file_bytes (slot mid.files n)))
    × IfSome told (λ program. program.pages ≤ 2 ^ 52)

-- and what is returned for /init
abbrev Answered : FileTree → FileTree → ℕ → Option Init → Type 0
Answered old new frames told = Serves old new (Ok told) (λ told. Leaves old new told × FindsInit old.files frames told)

lacks-plan : (files : Files) (frames : ℕ) → init_plan files ≡ None → LacksInit files frames
lacks-plan files frames none p is = absurd (none-some p (sym none ∙ is))

-- there is no /init
pub unresolved : {old mid : FileTree} {number : Option ℕ} (frames : ℕ) → Serves old mid (Ok number) (Resolves old mid)
    → number ≡ None → Answered old mid frames None
unresolved {old} {mid} {number} frames serves none =
    serves-told None (serves.told.0, lacks-plan old.files frames (plan-lost old.files (sym serves.told.1 ∙ none)))
    serves.up serves.same_device serves.cause.later

module _ {old mid : FileTree} {number : Option ℕ} (serves : Serves old mid (Ok number) (Resolves old mid)) {n : ℕ}
    (some : number ≡ Some n) where
  files-same : mid.files ≡ old.files
  files-same = ap (λ (t : FileTree). t.files) serves.told.0

  found : find old.files 1 init_path ≡ Some n
  found = sym serves.told.1 ∙ some

  pub resolved-node : KeepsTree old.files → (node : Node) × (slot mid.files n ≡ Some node)
  resolved-node keeps = some-there (slot mid.files n)
      (subst (λ (files : Files). IsSome (slot files n)) (sym files-same)
      (find-used keeps 1 init_path n (ap is_some keeps.root.here) found))

  module _ {new : FileTree} {told : Option Program} (reads : Serves mid new (Ok told) (Programs mid new n)) where
    pub left : new ≡ record old { failures = new.failures }
    left = reads.told.0.same ∙ ap (λ (t : FileTree). record t { failures = new.failures }) serves.told.0

    tells : (frames : ℕ) (told : Option Init) → FindsInit old.files frames told → Answered old new frames told
    tells frames told finds =
        serves-told told (left, finds) reads.up (reads.same_device ∙ serves.same_device)
        (le_trans serves.cause.later reads.cause.later)

    told-is : told ≡ option_and_then program_in (file_bytes (slot old.files n))
    told-is = reads.told.0.value
        ∙ ap (λ (files : Files). option_and_then program_in (file_bytes (slot files n))) files-same

    pub no-init : (frames : ℕ) → told ≡ None → Answered old new frames None
    no-init frames none = tells frames None
        (lacks-plan old.files frames (plan-none old.files n found (sym told-is ∙ none)))

    module _ {program : Program} (is : told ≡ Some program) where
      has : HasProgram old.files n program
      has = has-program old.files n program (sym told-is ∙ is)

      pub few : program.pages ≤ 2 ^ 52
      few = subst (λ o. IfSome o (λ (p : Program). p.pages ≤ 2 ^ 52)) is reads.told.1

      -- the frames for that many pages
      module _ (frames : ℕ) {needed : ℕ} (count : needed ≡ 3 + page_frames (program.pages + 2)) where
        pub large-init : frames ≤ needed → Answered old new frames None
        large-init over = tells frames None (too-long old.files n program found has frames (omega (arith, over, count)))

        pub few-pages : needed < frames → frames < 2 ^ 32 → 4096 * (program.pages + 2) < 2 ^ 64
        few-pages less small = omega (arith, count, less, small)

        pub argless-init : (told : Option Arguments) → PassesOne (init_path ++ 0 ∷ []) program.pages told → told ≡ None
            → Answered old new frames None
        argless-init told passes none =
            tells frames None (lacks-plan old.files frames
            (plan-passed old.files n program found has None
            (subst (PassesOne (init_path ++ 0 ∷ []) program.pages) none passes) has.is.loaded has.is.is))

        pub init-found : needed < frames → (a : Arguments) → PassesOne (init_path ++ 0 ∷ []) program.pages (Some a)
            → Answered old new frames (Some (record { number = n; program = program; arguments = a }))
        init-found less a passes =
            tells frames (Some (record { number = n; program = program; arguments = a }))
            (record {
              file = has.file;
              program = has.program_is;
              fits = omega (arith, less, count);
              plan = plan-passed old.files n program found has (Some a) passes;
            })

-- ---- putting it into its slot

module _ (files : Files) (frames : ℕ) (init : Init) (is : IsInit files frames init) where
  program-of : IsProgram (file_at files init.number) init.program
  program-of = is-program (file_at files init.number) init.program is.program

  abbrev the_plan : Plan
  the_plan = plan_with program-of.loaded.pages init.program.header.entry init.arguments

  long : length (the_plan).memory ≡ init.program.pages + 2
  long = length-stacked program-of.loaded.pages init.arguments.page ∙ ap (λ n. n + 2) program-of.pages

  aligned : init.program.header.entry % 4 ≡ 0
  aligned = let entry : init.program.header.entry ≡ number_at 8 24 (file_at files init.number) / 4 * 4 =
      ap (λ h. h.entry) program-of.read in omega (arith, entry)

  pub init-put : (made new : Spaces) → made ≡ alone frames no_pages
      → ((l : Loaded) → loaded_of (file_at files init.number) ≡ Some l
      → new ≡ with_view made 0 (paged (stacked l.pages init.arguments.page))) → IsInPlace files frames new init
  init-put made new is-made done =
      let pages = program-of.pages in
      let fits = is.fits in
      let size : 4096 * length (the_plan).memory ≡ (the_plan).size = omega (arith, long, pages) in
      record {
        plan = the_plan;
        is = is.plan program-of.loaded program-of.is;
        fits = rw long fits;
        spaces = done program-of.loaded program-of.is
            ∙ ap (λ (s : Spaces). with_view s 0 (paged (the_plan).memory)) is-made
            ∙ ap (λ (k : ℕ). alone frames (let h : SpaceView = record { memory = (the_plan).memory; size = k } in h))
            size;
        bare = refl;
        aligned = aligned;
      }

-- no space takes no frame
pub taken-none : (frames : ℕ) → taken_frames (no_spaces frames) ≡ 0
taken-none frames = omega (arith, no-frames 64)

-- what its loading requires
pub record IsReady (tree : FileTree) (made : Spaces) (init : Init) : Type 0 where
  pub file : IsFile tree.files init.number
  pub program_is : program_in (file_at tree.files init.number) ≡ Some init.program
  pub few : init.program.pages < 2 ^ 32
  pub space : has_space made 0 ≡ true
  pub room : HasRoom made 0 (init.program.pages + 2)

module _ {old mid : FileTree} {told : Option Init} {frames : ℕ} (serves : Answered old mid frames told) {init : Init}
    (some : told ≡ Some init)
    (s made : Spaces) (none : s ≡ no_spaces s.frames) (done : made ≡ with_view s 0 no_pages)
    (all : frames + taken_frames s ≡ s.frames) where
  every : frames ≡ s.frames
  every = omega (arith, all, ap taken_frames none ∙ taken-none s.frames)

  finds : IsInit old.files s.frames init
  finds = subst (λ n. IsInit old.files n init) every (subst (FindsInit old.files frames) some serves.told.1)

  same : mid.files ≡ old.files
  same = ap (λ (t : FileTree). t.files) serves.told.0

  alone-now : made ≡ alone s.frames no_pages
  alone-now = created none done

  pub ready : s.frames ≤ 32768 → IsReady mid made init
  ready small =
      let fits = finds.fits in
      let none_there : taken_frames (with_place made 0 None) ≡ 0 =
      ap (λ (x : Spaces). taken_frames (with_place x 0 None)) alone-now ∙ taken-none s.frames in
      record {
        file = subst (λ (files : Files). IsFile files init.number) (sym same) finds.file;
        program_is = ap (λ (files : Files). program_in (file_at files init.number)) same ∙ finds.program;
        few = omega (arith, fits, small);
        space = alone-space alone-now;
        room = omega (arith, none_there, ap (λ (x : Spaces). x.frames) alone-now, fits);
      }

  -- /init is in its slot
  pub in-place : (new : Spaces)
      → ((l : Loaded) → loaded_of (file_at mid.files init.number) ≡ Some l
      → new ≡ with_view made 0 (paged (stacked l.pages init.arguments.page))) → IsInPlace old.files s.frames new init
  in-place new loads = init-put old.files s.frames init finds made new alone-now
      (λ l loaded. loads l (ap (λ (files : Files). loaded_of (file_at files init.number)) same ∙ loaded))

-- ---- from the files of an image to the machine that boots from it

module _ {image identity : List ℕ} {failures : ℕ} {tree : FileTree} (mounted : IsMounted image identity failures tree)
    (frames : ℕ) where
  accepted : IsAccepted image tree.files
  accepted = record { denotes = mounted.denotes; only = mounted.only }

  pub booted-from : (r : Result View BootFault) → IfOk r (IsBegun tree frames)
      → IfOk r (IsBooted image identity failures frames)
  booted-from (Ok m) begun = record {
    files = tree.files;
    accepted = accepted;
    starts = ap (λ limit. start tree.files limit frames) (sym mounted.limit) ∙ begun.starts;
    up = begun.up;
    same_device = begun.same_device ∙ mounted.same_device;
    later = le_trans mounted.later begun.later;
  }
  booted-from (Err f) begun = tt

module _ {D : Type 0} (identity : D → List ℕ) (count : D → ℕ) (disk : D) {image : List ℕ} {tree : FileTree}
    (mounted : IsMounted image (identity disk) (count disk) tree) (frames : ℕ) where
  unbooted : (f : BootFault) → IsNotBegun identity count tree frames f → IsUnbooted identity count disk image frames f
  unbooted (Image f) why = absurd why
  unbooted FrameCount why = absurd why
  unbooted Device why =
      let rises = why.rises in
      let later = mounted.later in (
        why.disk,
        record {
          reaches = record
              { same_device = why.same_device ∙ mounted.same_device; later = le_trans mounted.later why.later };
          rises =
              omega (arith, rises, later);
        },
      )
  unbooted NoMemory why = tt
  unbooted NoInit why = record {
    files = tree.files;
    accepted = record { denotes = mounted.denotes; only = mounted.only };
    none = ap (λ limit. start tree.files limit frames) (sym mounted.limit) ∙ why;
  }

  pub refused-from : (r : Result View BootFault) → IfErr r (IsNotBegun identity count tree frames)
      → IfErr r (IsUnbooted identity count disk image frames)
  refused-from (Ok m) why = tt
  refused-from (Err f) why = unbooted f why

-- where the count of frames is in range the fault isn't `FrameCount`
pub counted-from : {D : Type 0} (identity : D → List ℕ) (count : D → ℕ) (tree : FileTree) (frames : ℕ) → 64 ≤ frames
    → frames ≤ 32768 → (r : Result View BootFault) → IfErr r (IsNotBegun identity count tree frames)
    → IsErrOf r FrameCount ↔ ((frames < 64) ⊎ (32768 < frames))
counted-from identity count tree frames least most r why = (
  λ e. absurd (subst (λ x. IfErr x (IsNotBegun identity count tree frames)) e why),
  λ out. absurd (outside frames least most out),
)

-- why there are no files
pub unmounted-why : {D : Type 0} (identity : D → List ℕ) (count : D → ℕ) (disk : D) (image : List ℕ) (frames : ℕ)
    (f : ImageFault) → IsUnmounted identity count disk image f
    → IsUnbooted identity count disk image frames (boot_fault f)
unmounted-why identity count disk image frames fault.Device u = u.failed refl
unmounted-why identity count disk image frames fault.NoMemory u = tt
unmounted-why identity count disk image frames f u = (tt, u.tells, u.none tt)
