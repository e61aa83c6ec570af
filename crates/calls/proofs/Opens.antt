-- open, chdir and exec: a node is opened, becomes the directory of the running process, or gives its program.
use Rattle.calls.proofs.Common.{[], Acts, ActsOnDisk, answered, answered-here, Answers, answers, ap, args_at, argument}
use Rattle.calls.proofs.Common.{arith, blocks_of, Bool, Came, Chdir, chdir_row, descriptors_in, DeviceFault, Directory}
use Rattle.calls.proofs.Common.{directory_at, Done, Err, Exec, exec_row, false, false≢true, File, file_bytes, Files}
use Rattle.calls.proofs.Common.{FileTree, find, fits_beside, frames-state, free-opens, free_count, free_slot, given}
use Rattle.calls.proofs.Common.{has_failed, has_seat, HasRead, HasReplaced, held-here, Here, here-as, here-of}
use Rattle.calls.proofs.Common.{if◌then◌else◌, InodeStat, is_directory, is_none, IsFolder, IsKernel, IsRefused}
use Rattle.calls.proofs.Common.{IsServed, IsWhole, Kernel, kind_of, le-leb, le_trans, leaf_node, length, limited, List}
use Rattle.calls.proofs.Common.{low, lt-leb, Made, made_at, made_files, made_in, MakesNode, me, nat_le, nat_lt, ne_eqb}
use Rattle.calls.proofs.Common.{Node, None, none-some, Ok, Open, open_row, Option, option_and_then}
use Rattle.calls.proofs.Common.{option_and_then_some, Outcome, outcome_of, Overflows, page_frames, path_argument}
use Rattle.calls.proofs.Common.{Process, process-here, provided, put_process, Reaches, refl, Refused, Refuses, replaced}
use Rattle.calls.proofs.Common.{Result, row_of, RunsAt, settle, slice_index, slot, Some, Spot, spot_of, State, state_of}
use Rattle.calls.proofs.Common.{subst, sym, Tells, TreeFault, true, view_at, with_tree, WorksIn, ℕ, ◌%◌, ◌+◌, ◌<◌, ◌∙◌}
use Rattle.calls.proofs.Common.{◌≡◌, ◌≢◌, ◌≤◌}
use Rattle.kernel.specs.Opening.{free_descriptors}
use Rattle.calls.specs.Opened.{Asks, cut_tree, IsCut, IsOpenable, may_open_by, Opens, with_open}
use Rattle.files.specs.Places.{opens_of}
use Rattle.name_rules.proofs.Spots.{spot-absent}
use Rattle.unixmodel.specs.NameCalls.{opened, creates, found_or_made, may_open, new_file, truncated, make_at}
use Rattle.calls.proofs.Acts.{does, given-refused, provided-refused, refused, runs-of, settles, settles-gone}
use Rattle.calls.proofs.Names.{found-here, home-is, node-here, over-blocks, path-is, refused-acts, refused-read}
use Rattle.tree.specs.declared.making.Leaf.TheVariants as leaf
use Rattle.unixmodel.specs.Process as unix
use Rattle.kernel.proofs.Working.{work-reaps}
pub use Rattle.calls.proofs.Names.{some-there}
use Rattle.calls.proofs.Openable.{made-new, may-by, openable-cut, openable-told, some-place, truncated-new}
use Rattle.programs.specs.declared.executing.Started.{Started}
use Rattle.programs.specs.Executed.{frames_beside, plan_at}
use Rattle.unixmodel.specs.Plan.{Plan, plan}
use Rattle.kernel.proofs.Forking.{replaced-state}

-- ---- the row

-- what open does where it may open the node that it got
abbrev opens_seat : State → ℕ → unix.Process → ℕ → Made → Outcome
opens_seat s i p f got =
    given (free_slot p.descriptors) λ fd.
    given (free_slot s.opens) λ place.
    answers (record (with_open s i p fd place (opened f got.number)) { files = truncated f got }) fd

-- and where it got one
abbrev opens_got : State → ℕ → unix.Process → ℕ → Made → Outcome
opens_got s i p f got = given (slot got.files got.number) λ node. provided (may_open f node) (opens_seat s i p f got)

module _ {k : Kernel} {i : ℕ} (x : Here k i) where
  open-row : {path : List ℕ} (f : ℕ) (o : Option ℕ) → Asks k i path f o
      → row_of x Open ≡ given (found_or_made k.tree.files x.process.directory path f o)
      (opens_got (state_of k) i (me x) f)
  unfolding open_row
  open-row {path} f o asks = let at = path-is x 0 asks.named in let found =
      found-here x path asks.found in rw (asks.flags, at, found) refl

  -- no descriptor or no slot is free
  full : has_seat k i ≡ false → (f : ℕ) (made : Option Made)
      → limited (given made (opens_got (state_of k) i (me x) f)) ≡ Refused
  full none f made =
      given-refused made _ (λ got e1. given-refused (slot got.files got.number) _
      (λ node e2. provided-refused (may_open f node) _ (
      given-refused (free_slot x.process.descriptors) _
      (λ fd e3. given-refused (free_slot (opens_of k.files)) _ (λ place e4.
      let one : nat_lt 0 (free_descriptors k.table i) ≡ true =
      some-place (descriptors_in (slot k.table.places i)) fd
      (ap (λ (o : Option Process). free_slot (descriptors_in o)) x.run.process ∙ e3) in
      let two : nat_lt 0 (free_count k.files) ≡ true = ap (nat_lt 0) (sym (free-opens k.files))
      ∙ some-place (opens_of k.files) place e4 in
      absurd (false≢true (sym none ∙ rw (one, two) refl)))))))

  -- e is kernel k with that tree, in which it got the node; then it was opened
  opens-acts : (tree : FileTree) → tree.block_limit ≡ k.tree.block_limit → tree.identity ≡ k.tree.identity
      → k.tree.failures ≤ tree.failures → {e : Kernel} → e ≡ record k { tree = tree } → (f : ℕ) (got : Made)
      → tree.files ≡ truncated f got
      → row_of x Open ≡ opens_got (state_of k) i (me x) f got → {node : Node} → slot got.files got.number ≡ Some node
      → may_open f node ≡ true → {new : Kernel} {fd : ℕ} → Opens e new i (opened f got.number) fd
      → Acts k new i (Some Open) (Answers fd)
  opens-acts tree limit device later is f got cut made here may {new} {fd} opens =
      let one : Opens (record k { tree = tree }) new i (opened f got.number) fd =
      subst (λ (y : Kernel). Opens y new i (opened f got.number) fd) is opens in
      let free : free_slot x.process.descriptors ≡ Some fd =
      ap (λ (o : Option Process). free_slot (descriptors_in o)) (sym x.run.process) ∙ one.free in
      let last = with_open (state_of k) i (me x) fd one.place (opened f got.number) in
      let state : state_of new ≡ record last { files = truncated f got } =
      one.state (me x) (process-here x)
      ∙ ap (λ (fs : Files). record last { files = fs; block_limit = tree.block_limit }) cut
      ∙ ap (λ (b : ℕ). record last { files = truncated f got; block_limit = b }) limit in
      does x Open fd (here-of one.runs)
      (record {
        up = one.served.up;
        same_device = one.served.same_device ∙ device;
        later = le_trans later one.served.later;
      })
      (made
      ∙ ap (λ (o : Option Node). given o (λ m. provided (may_open f m) (opens_seat (state_of k) i (me x) f got))) here
      ∙ ap (λ (b : Bool). provided b (opens_seat (state_of k) i (me x) f got)) may
      ∙ rw (free, one.first) (ap (λ (s : State). Done s fd []) (sym state)))

  -- ---- the path reaches number n

  module _ {n f : ℕ} (asks : (path : List ℕ) × Asks k i path f (Some n)) where
    abbrev got : Made
    got = record { files = k.tree.files; number = n }

    pub open-node : (node : Node) × (slot k.tree.files n ≡ Some node)
    open-node = node-here x asks.0 asks.1.found

    open-got : row_of x Open ≡ opens_got (state_of k) i (me x) f got
    open-got = open-row f (Some n) asks.1

    module _ {k1 : Kernel} (told : InodeStat)
        (reads : HasRead k k1 × ((node : Node) → slot k.tree.files n ≡ Some node → Tells told node)) where
      pub open-closed : may_open_by f told.kind told.major ≡ false → Acts k k1 i (Some Open) Refuses
      open-closed no' =
          refused-read reads.0 x Open (
          ap limited open-got
          ∙ given-refused (slot k.tree.files n) _
          (λ node here. let t = reads.1 node here
          in rw (sym (may-by f node told.kind told.major t.0 t.3) ∙ no') refl))

      pub open-full : has_seat k1 i ≡ false → Acts k k1 i (Some Open) Refuses
      open-full none = refused-read reads.0 x Open
          (ap limited open-got ∙ full (subst (λ (y : Kernel). has_seat y i ≡ false) reads.0.same none) f (Some got))

      pub node-then : slot k1.tree.files n ≢ None
      node-then none = none-some open-node.0
          (sym none ∙ ap (λ (y : Kernel). slot y.tree.files n) reads.0.same ∙ open-node.1)

      module _ (may : may_open_by f told.kind told.major ≡ true) {k2 : Kernel} (cut : IsCut k1 k2 f n) where
        may-open : IsOpenable k.tree.files n f told
        may-open = openable-told k.tree.files n f told open-node reads.1 may

        pub may-open-cut : IsOpenable k2.tree.files n f told
        may-open-cut = subst (λ (y : Kernel). IsOpenable y.tree.files n f told) (sym cut.same)
            (openable-cut k1.tree.files n f told
            (subst (λ (y : Kernel). IsOpenable y.tree.files n f told) (sym reads.0.same) may-open))

        pub open-found : {new : Kernel} {fd : ℕ} → Opens k2 new i (opened f n) fd
            → Acts k new i (Some Open) (Answers fd)
        open-found opens =
            let after = cut.same ∙ ap (λ (y : Kernel). record y { tree = cut_tree y.tree f n k2.tree.failures })
            reads.0.same in
            opens-acts (cut_tree k.tree f n k2.tree.failures) refl refl (le_trans reads.0.later cut.later) after f got
            refl open-got may-open.here may-open.may opens

  -- ---- it reaches nothing

  module _ {path : List ℕ} {f : ℕ} (asks : Asks k i path f None) where
    pub open-absent : creates f ≡ false → Acts k k i (Some Open) Refuses
    open-absent no' = refused x (Some Open) (ap limited (open-row f None asks) ∙ rw no' refl)

    module _ (asked : creates f ≡ true) where
      abbrev made_here : Option Made
      made_here = option_and_then (λ at. make_at k.tree.files at new_file)
          (spot_of k.tree.files x.process.directory path)

      new-row : row_of x Open ≡ given made_here (opens_got (state_of k) i (me x) f)
      new-row = open-row f None asks
          ∙ ap (λ (b : Bool). given (if b then made_here else None) (opens_got (state_of k) i (me x) f)) asked

      pub open-new-full : has_seat k i ≡ false → Acts k k i (Some Open) Refuses
      open-new-full none = refused x (Some Open) (ap limited new-row ∙ full none f made_here)

      made-from : made_in k.tree.files (directory_at k i) path (leaf_node leaf.File) ≡ made_here
      unfolding made_in made_at
      made-from = rw (home-is x) (go (spot_of k.tree.files x.process.directory path) refl) where
        go : (o : Option Spot) → spot_of k.tree.files x.process.directory path ≡ o
            → option_and_then (λ at. made_at k.tree.files at (λ n. File 1 [])) o
            ≡ option_and_then (λ at. make_at k.tree.files at new_file) o
        go None e = refl
        go (Some at) e = ap (λ (o : Option ℕ). if is_none o then make_at k.tree.files at new_file else None)
            (spot-absent k.tree.files x.process.directory path at e (found-here x path asks.found))

      -- the new node is an empty file
      made-there : {made : Made} → made_here ≡ Some made → slot made.files made.number ≡ Some (File 1 [])
      made-there {made} e = option_and_then_some (λ at. make_at k.tree.files at new_file)
          (spot_of k.tree.files x.process.directory path) made e (λ at spot is. made-new k.tree.files at made is)

      new-over : Overflows k.tree.block_limit
          (made_files (made_in k.tree.files (directory_at k i) path (leaf_node leaf.File)))
          → outcome_of (state_of k) i (me x) (Some Open) ≡ Refused
      new-over over =
          ap limited new-row
          ∙ given-refused made_here _
          (λ made e1. given-refused (slot made.files made.number) _
          (λ node e2. provided-refused (may_open f node) _
          (given-refused (free_slot x.process.descriptors) _
          (λ fd e3. given-refused (free_slot (opens_of k.files)) _ (λ place e4.
          let last : State = record (with_open (state_of k) i (me x) fd place (opened f made.number))
          { files = truncated f made } in
          ap (λ (b : Bool). provided b (Done last fd []))
          (over-blocks last (subst (λ (fs : Files). k.tree.block_limit < blocks_of fs)
          (sym (truncated-new f made (made-there e1))) (over made.files (ap made_files (made-from ∙ e1))))))))))

      module _ {mid : Kernel} (rest : mid ≡ with_tree k mid.tree) (sound : IsKernel mid) {r : Result ℕ TreeFault}
          (acts : MakesNode k.tree mid.tree (directory_at k i) path (leaf_node leaf.File) r) where
        pub create-fails : (fault : TreeFault) → r ≡ Err fault → (came : Result Came DeviceFault)
            → IsRefused fault came → ActsOnDisk k mid i (Some Open) came
        create-fails = refused-acts x rest sound acts Open new-over

        module _ {v : ℕ} (done : r ≡ Ok v) where
          abbrev new_node : Made
          new_node = record { files = mid.tree.files; number = v }

          made : made_here ≡ Some new_node
          made = sym made-from ∙ rw done at acts.done

          new-there : slot mid.tree.files v ≡ Some (File 1 [])
          new-there = made-there {made = new_node} made

          pub created-runs : RunsAt k i → RunsAt mid i
          created-runs runs = runs-of (ap (λ (y : Kernel). y.spaces.active) rest ∙ runs.active)
              (acts.failed ∙ ap has_failed done) sound
              (ap (λ (y : Kernel). slice_index y.spaces.registers 0) rest ∙ runs.zero)
              (ap (λ (y : Kernel). y.spaces.pc % 4) rest ∙ runs.aligned)

          pub created-openable : (told : InodeStat) → told.kind ≡ 2 → IsOpenable mid.tree.files v f told
          created-openable told kind =
              record { node = File 1 []; here = new-there; kind = kind; major = tt; may = refl }

          pub open-created : {new : Kernel} {fd : ℕ} → Opens mid new i (opened f v) fd
              → Acts k new i (Some Open) (Answers fd)
          open-created opens =
              opens-acts mid.tree acts.limit acts.same_device acts.later rest f new_node
              (sym (truncated-new f new_node new-there))
              (new-row ∙ ap (λ o. given o (opens_got (state_of k) i (me x) f)) made) new-there refl opens

-- what is requested, once the path was looked up
pub asks-of : {k e : Kernel} {i f : ℕ} {path : List ℕ} {o q : Option ℕ} → Some path ≡ path_argument k i 0
    → f ≡ low (argument k 1) → HasRead k e × (o ≡ find k.tree.files (directory_at k i) path) → o ≡ q → Asks e i path f q
asks-of {i = i} {f = f} {path = path} {q = q} named flags reads is =
    subst (λ (y : Kernel). Asks y i path f q) (sym reads.0.same)
    (record { named = named; flags = flags; found = sym is ∙ reads.1 })

-- ---- chdir: the running process works in another directory, and the one that it leaves may go

folder-kind : (node : Node) → kind_of node ≡ 1 → IsFolder (Some node)
folder-kind (Directory links places) kind = tt
folder-kind node kind = absurd (omega arith)

folder-is : (node : Node) → IsFolder (Some node) → is_directory node ≡ true
folder-is (Directory links places) is = refl
folder-is _ is = absurd is

-- its path reaches number n
module _ {k : Kernel} {i n : ℕ} (x : Here k i) (r : Reaches k i n) where
  abbrev works : Outcome
  works = answers (put_process (state_of k) i (record (me x) { directory = n })) 0

  pub chdir-there : (node : Node) × (slot k.tree.files n ≡ Some node)
  chdir-there = node-here x r.path r.found

  chdir-made : {b : Bool} → is_directory chdir-there.0 ≡ b → row_of x Chdir ≡ provided b works
  unfolding chdir_row
  chdir-made is = let at = path-is x 0 r.named in let found = found-here x r.path r.found in let there =
      chdir-there.1 in rw (at, found, there, is) refl

  -- from its attributes
  module _ {e : Kernel} (told : InodeStat)
      (reads : HasRead k e × ((node : Node) → slot k.tree.files n ≡ Some node → Tells told node)) where
    tells : Tells told chdir-there.0
    tells = reads.1 chdir-there.0 chdir-there.1

    pub chdir-other : told.kind ≢ 1 → Acts k e i (Some Chdir) Refuses
    chdir-other other = refused-read reads.0 x Chdir
        (ap limited (chdir-made {b = false} (rw (← tells.0) (ne_eqb told.kind 1 other))))

    pub chdir-goes : told.kind ≡ 1 → Reaches e i n × IsFolder (slot e.tree.files n)
    chdir-goes kind = subst (λ (y : Kernel). Reaches y i n × IsFolder (slot y.tree.files n)) (sym reads.0.same) (
      record { path = r.path; named = r.named; found = r.found },
      subst IsFolder (sym chdir-there.1) (folder-kind chdir-there.0 (sym tells.0 ∙ kind)),
    )

  -- it is a directory, and the process works there now
  pub chdirs : IsFolder (slot k.tree.files n) → IsWhole k.tree → {new : Kernel} → IsKernel new
      → WorksIn k new i n × IsServed k.tree new.tree → Acts k new i (Some Chdir) (Answers 0)
  chdirs folder whole sound told =
      let made = chdir-made (folder-is chdir-there.0 (rw chdir-there.1 at folder)) in
      let reaped = work-reaps (answered-here x 0).runner n
      (record { running = x.run.active; folder = folder; up = x.up }) whole
      ∙ sym (ap state_of (ap (λ (z : Kernel). answered z 0) told.0)) in
      settles x Chdir 0 (here-as x sound told.0 refl told.1.up) told.1
      (ap (λ (o : Outcome). settle (state_of k) i (limited o)) made
      ∙ settles-gone x x.process.descriptors n refl reaped)

-- ---- exec: another program replaces the one that runs

given-plan : (o : Option (List ℕ)) (args : Option (List (List ℕ))) (rest : Plan → Outcome)
    → given o (λ file. given args (λ a. given (plan file a) rest))
    ≡ given (option_and_then (λ file. option_and_then (plan file) args) o) rest
given-plan None args rest = refl
given-plan (Some file) None rest = refl
given-plan (Some file) (Some a) rest = refl

-- it replaces the program of process p
abbrev replaces : State → ℕ → unix.Process → Plan → Outcome
replaces s i p new = provided (fits_beside s new) (answers (put_process s i (replaced p new)) new.argc)

-- its path reaches number n
module _ {k : Kernel} {i n : ℕ} (x : Here k i) (r : Reaches k i n) where
  abbrev planned : Option Plan
  planned = plan_at k.tree.files n (view_at k.spaces i).memory (argument k 1)

  exec-row : row_of x Exec ≡ given planned (replaces (state_of k) i (me x))
  unfolding exec_row
  exec-row =
      let at = path-is x 0 r.named in
      let found = found-here x r.path r.found in
      rw (at, found, held-here x)
      (given-plan (file_bytes (slot k.tree.files n)) (args_at x.held.memory (argument k 1))
      (replaces (state_of k) i (me x)))

  fits-is : (new : Plan) → fits_beside (state_of k) new ≡ nat_le (frames_beside k.spaces new) k.spaces.frames
  fits-is new = ap (λ m. nat_le (m + 3 + page_frames (length new.memory)) k.spaces.frames) (frames-state k x.sound)

  -- it is no program, or the frames don't suffice
  pub exec-refused : {e : Kernel} → HasRead k e
      → ((p : Plan) → planned ≡ Some p → k.spaces.frames < frames_beside k.spaces p) → Acts k e i (Some Exec) Refuses
  exec-refused has over =
      refused-read has x Exec (
      ap limited exec-row
      ∙ given-refused planned (replaces (state_of k) i (me x)) (λ p is.
      let none : fits_beside (state_of k) p ≡ false = fits-is p ∙ lt-leb _ _ (over p is) in
      ap (λ b. limited (provided b (answers (put_process (state_of k) i (replaced (me x) p)) p.argc))) none))

  -- its program replaces the old one
  pub exec-done : {new : Kernel} {started : Started} → HasReplaced k new i n (argument k 1) started → IsKernel new
      → Acts k new i (Some Exec) (Answers started.count)
  exec-done {new} h sound =
      let p = h.plan in
      let up = ap (λ (z : Kernel). z.tree.failed) h.same ∙ x.up in
      rw h.begins (
      does x Exec p.argc (here-as x sound h.same refl up)
      (record { up = up; same_device = ap (λ (z : Kernel). z.tree.identity) h.same; later = h.later })
      (exec-row
      ∙ ap (λ o. given o (replaces (state_of k) i (me x))) h.is
      ∙ ap (λ b. provided b (answers (put_process (state_of k) i (replaced (me x) p)) p.argc))
      (fits-is p ∙ le-leb _ _ h.fits)
      ∙ ap (λ (s : State). Done s p.argc []) (sym (ap state_of h.same ∙ replaced-state x.runner p))))
