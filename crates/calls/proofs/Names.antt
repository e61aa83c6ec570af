-- Calls on names: the running process stays as it is, and the files alone change.
use Rattle.calls.proofs.Common.{[], Acts, ActsOnDisk, and_left, and_right, Answers, answers, ap, arg, argument}
use Rattle.calls.proofs.Common.{blocks_of, Call, Came, current, DeviceFault, directory_at, directory_in, Done, Err}
use Rattle.calls.proofs.Common.{false, false≢true, Files, find, folder_in, frames_of, given, has_failed, HasRead}
use Rattle.calls.proofs.Common.{held-here, Here, here-as, home-folder, home-running, home_in, is_device, is_within}
use Rattle.calls.proofs.Common.{IsKernel, IsRefused, IsServed, IsSome, Kernel, leaf_node, limited, Link, link_row}
use Rattle.calls.proofs.Common.{linked, linked_in, List, lt-leb, Made, made_at, made_directory, made_files, made_in}
use Rattle.calls.proofs.Common.{MakesNode, me, Mkdir, mkdir_row, Mknod, mknod_row, nat_le, Node, None, Ok, open_limit}
use Rattle.calls.proofs.Common.{Option, option_and_then, option_map, Outcome, outcome_at, outcome_of, Overflows}
use Rattle.calls.proofs.Common.{path_argument, path_at, provided, Reaches, refl, Refused, Refuses, Result, row_of}
use Rattle.calls.proofs.Common.{RunsAt, settle, settled_by, slot, Some, SpaceView, spot_of, State, state_of, subst, sym}
use Rattle.calls.proofs.Common.{TreeFault, true, with_tree, ℕ, ◌%◌, ◌&&◌, ◌<◌, ◌^◌, ◌∙◌, ◌≡◌}
use Rattle.tree.specs.Calls.{MakesDirectory, MakesLink}
use Rattle.unixmodel.specs.NameCalls.{path_arg, with_files}
use Rattle.tree.proofs.Keeping.{device-is}
use Rattle.kernel.proofs.Ending.{counting-kernel}
use Rattle.calls.specs.Named.{IsNamed}
use Rattle.name_rules.proofs.Finding.{find-used}
use Rattle.kernel.proofs.FileChanges.{folder-there}
use Rattle.tree.specs.declared.TreeFault.TheVariants.{Device}
use Rattle.unixmodel.specs.Counts.{opens_of}
use Rattle.calls.proofs.Acts.{does, outcome-here, refused, refuses-on, lost-after, served-after}
use Rattle.tree.specs.declared.making.Leaf.TheVariants as leaf
use Rattle.tree.specs.Tree as tree
use Rattle.unixmodel.specs.Process as unix

-- ---- the paths of the process that calls

pub some-there : (o : Option Node) → IsSome o → (node : Node) × (o ≡ Some node)
some-there None is = absurd (cc)
some-there (Some node) is = (node, refl)

module _ {k : Kernel} {i : ℕ} (x : Here k i) where
  pub home-is : directory_at k i ≡ x.process.directory
  home-is = ap directory_in x.run.process

  pub path-is : (n : ℕ) {o : Option (List ℕ)} → o ≡ path_argument k i n → path_arg (me x) n ≡ o
  path-is n is = sym (is ∙ ap (λ (h : SpaceView). path_at h.memory (argument k n)) (held-here x))

  -- there is none
  pub pathless : (rest : List ℕ → Outcome) (call : Call) → row_of x call ≡ given (path_arg (me x) 0) rest
      → None ≡ path_argument k i 0 → Acts k k i (Some call) Refuses
  pathless rest call is none = refused x (Some call) (ap limited (is ∙ ap (λ o. given o rest) (path-is 0 none)))

  -- what it reaches from the directory that the process works in
  pub found-here : (path : List ℕ) {o : Option ℕ} → o ≡ find k.tree.files (directory_at k i) path
      → find k.tree.files x.process.directory path ≡ o
  found-here path is = sym (is ∙ ap (λ d. find k.tree.files d path) home-is)

  -- that is a node
  pub node-here : (path : List ℕ) {n : ℕ} → Some n ≡ find k.tree.files (directory_at k i) path
      → (node : Node) × (slot k.tree.files n ≡ Some node)
  node-here path {n} at =
      let home = x.process.directory in
      let used = x.sound.used x.up in
      let there = folder-there (slot k.tree.files home)
      (home-folder used i home (ap home_in x.run.process ∙ home-running x.process x.run.runs)) in
      some-there (slot k.tree.files n) (find-used used.rules home path n there (found-here path at))

-- ---- once the disk was read

module _ {k e : Kernel} (has : HasRead k e) where
  pub read-served : k.tree.failed ≡ false → IsServed k.tree e.tree
  read-served up = record {
    up = ap (λ (y : Kernel). y.tree.failed) has.same ∙ up;
    same_device = ap (λ (y : Kernel). y.tree.identity) has.same;
    later = has.later;
  }

  pub read-runs : {i : ℕ} → RunsAt k i → RunsAt e i
  read-runs {i} runs = subst (λ (y : Kernel). RunsAt y i) (sym has.same)
      (record {
        active = runs.active;
        up = runs.up;
        sound = counting-kernel k e.tree.failures runs.sound;
        zero = runs.zero;
        aligned = runs.aligned;
      })

  -- a call that is refused then
  pub refused-read : {i : ℕ} (x : Here k i) (call : Call) → outcome_of (state_of k) i (me x) (Some call) ≡ Refused
      → Acts k e i (Some call) Refuses
  refused-read x call is =
      refuses-on (outcome-here x (Some call) ∙ is) (ap state_of has.same)
      (ap (λ (y : Kernel). y.spaces.active) has.same ∙ x.run.active)
      (subst IsKernel (sym has.same) (counting-kernel k e.tree.failures x.sound)) (read-served x.up)

  -- the same process runs
  pub looked : current e ≡ current k
  looked = ap current has.same

  -- and one that goes on
  on-look : (new : Kernel) (i : ℕ) → k.tree.failed ≡ false → (call : Call) (r : Result Came DeviceFault)
      → ActsOnDisk e new i (Some call) r → ActsOnDisk k new i (Some call) r
  on-look new i up call (Err fault) lost = lost-after (read-served up) lost
  on-look new i up call (Ok came) acts = record {
    makes = subst (λ (y : Kernel). settle (state_of y) i (outcome_at (state_of y) i (Some call))
        ≡ record { state = settled_by (state_of new) i came; bytes = [] }) has.same acts.makes;
    active = acts.active;
    sound = acts.sound;
    can = acts.can;
    printed = acts.printed;
    served = served-after (read-served up) acts.served;
  }

  pub after-look : (new : Kernel) → k.tree.failed ≡ false → (call : Call) (r : Result Came DeviceFault)
      → ActsOnDisk e new (current e) (Some call) r → ActsOnDisk k new (current k) (Some call) r
  after-look new up call r acts =
      on-look new (current k) up call r (subst (λ i. ActsOnDisk e new i (Some call) r) looked acts)

-- the path reaches nothing
pub lost-path : {k e : Kernel} {i : ℕ} (x : Here k i) {path : List ℕ} (rest : List ℕ → ℕ → Outcome) (call : Call)
    → row_of x call ≡ given (path_arg (me x) 0) (λ path. given (find k.tree.files x.process.directory path) (rest path))
    → Some path ≡ path_argument k i 0 → HasRead k e × (None ≡ find k.tree.files (directory_at k i) path)
    → Acts k e i (Some call) Refuses
lost-path {k} x {path} rest call row is reads =
    refused-read reads.0 x call
    (ap limited (row ∙ ap (λ (o : Option (List ℕ)). given o
    (λ path. given (find k.tree.files x.process.directory path) (rest path))) (path-is x 0 is)
    ∙ ap (λ (o : Option ℕ). given o (rest path)) (found-here x path reads.1)))

-- it reaches a number
pub reaches : {k e : Kernel} {i n : ℕ} {path : List ℕ} {o : Option ℕ} → Some path ≡ path_argument k i 0
    → HasRead k e × (o ≡ find k.tree.files (directory_at k i) path) → o ≡ Some n → Reaches e i n
reaches {i = i} {n = n} {path = path} named reads some =
    subst (λ (y : Kernel). Reaches y i n) (sym reads.0.same)
    (record { path = path; named = named; found = sym some ∙ reads.1 })

-- ---- rows

pub given-then : {X Y : Type 0} (o : Option X) (f : X → Option Y) (g : Y → Outcome)
    → given o (λ x. given (f x) g) ≡ given (option_and_then f o) g
given-then None f g = refl
given-then (Some x) f g = refl

given-map : {X Y : Type 0} (o : Option X) (f : X → Y) (g : Y → Outcome)
    → given o (λ x. g (f x)) ≡ given (option_map f o) g
given-map None f g = refl
given-map (Some x) f g = refl

-- the call makes these files, if any
abbrev pub with_made : State → Option Files → Outcome
with_made s made = given made (λ files. answers (with_files s files) 0)

mknod-row : (s : State) (i : ℕ) (p : unix.Process) (path : List ℕ) → path_arg p 0 ≡ Some path
    → mknod_row s i p ≡ with_made s
    (made_files (made_in s.files p.directory path (Node.Device 1 (arg p 1 % 2 ^ 16) (arg p 2 % 2 ^ 16))))
unfolding mknod_row made_in
mknod-row s i p path at =
    rw at (
    given-then (spot_of s.files p.directory path)
    (λ at. made_at s.files at (λ n. Node.Device 1 (arg p 1 % 2 ^ 16) (arg p 2 % 2 ^ 16)))
    (λ (made : Made). answers (with_files s made.files) 0)
    ∙ given-map (option_and_then (λ at. made_at s.files at (λ n. Node.Device 1 (arg p 1 % 2 ^ 16) (arg p 2 % 2 ^ 16)))
    (spot_of s.files p.directory path)) (λ (made : Made). made.files) (λ files. answers (with_files s files) 0))

mkdir-row : (s : State) (i : ℕ) (p : unix.Process) (path : List ℕ) → path_arg p 0 ≡ Some path
    → mkdir_row s i p ≡ with_made s (folder_in s.files p.directory path)
unfolding mkdir_row folder_in
mkdir-row s i p path at =
    rw at (given-then (spot_of s.files p.directory path) (made_directory s.files)
    (λ files. answers (with_files s files) 0))

link-row : (s : State) (i : ℕ) (p : unix.Process) (old new : List ℕ) → path_arg p 0 ≡ Some old
    → path_arg p 1 ≡ Some new → link_row s i p ≡ with_made s (linked_in s.files p.directory old new)
unfolding link_row linked_in
link-row s i p old new from to = rw (from, to) (go (find s.files p.directory old)) where
  go : (o : Option ℕ) → given o
      (λ n. given (spot_of s.files p.directory new) (λ at. with_made s (linked s.files at n)))
      ≡ with_made s (option_and_then
      (λ n. option_and_then (λ at. linked s.files at n) (spot_of s.files p.directory new)) o)
  go None = refl
  go (Some n) = given-then (spot_of s.files p.directory new) (λ at. linked s.files at n)
      (λ files. answers (with_files s files) 0)

-- more blocks are taken than there are
pub over-blocks : (s : State) → s.block_limit < blocks_of s.files → is_within s ≡ false
over-blocks s over =
    and_left (nat_le (frames_of s) s.frame_limit && nat_le (blocks_of s.files) s.block_limit)
    (nat_le (opens_of s) open_limit)
    (and_right (nat_le (frames_of s) s.frame_limit) (nat_le (blocks_of s.files) s.block_limit) (lt-leb _ _ over))

made-over : (s : State) (made : Option Files) → Overflows s.block_limit made → limited (with_made s made) ≡ Refused
made-over s None over = refl
made-over s (Some files) over =
    ap (λ b. provided b (Done (with_files s files) 0 [])) (over-blocks (with_files s files) (over files refl))

is-device : (fault : TreeFault) → is_device fault ≡ true → fault ≡ Device
is-device Device is = refl
is-device _ is = absurd (false≢true is)

-- ---- the kernel with other files

-- what a call on names does where the tree returned r
abbrev pub ActsNamed : {T : Type 0} → Kernel → Kernel → ℕ → Call → Result T TreeFault → Type 0
ActsNamed k new i call r = (came : Result Came DeviceFault) → IsNamed r came → ActsOnDisk k new i (Some call) came

-- new is that, and keeps what a kernel keeps
module _ {k : Kernel} {i : ℕ} (x : Here k i) {new : Kernel} (rest : new ≡ with_tree k new.tree) (sound : IsKernel new)
  where
    pub over-here : new.tree.failed ≡ false → Here new i
    over-here = here-as x sound rest refl

    pub tree-state : new.tree.block_limit ≡ k.tree.block_limit → state_of new ≡ with_files (state_of k) new.tree.files
    tree-state limit = ap state_of rest
        ∙ ap (λ b. record (state_of k) { files = new.tree.files; block_limit = b }) limit

    module _ {T : Type 0} {Done' : T → Type 0} {Bad : Type 0} {Why : TreeFault → Type 0} {r : Result T TreeFault}
        (acts : tree.Acts k.tree new.tree r Done' Bad Why) (call : Call) where
      -- nothing was made: the call is refused, or an access failed
      pub refused-acts : (Bad → outcome_of (state_of k) i (me x) (Some call) ≡ Refused) → (fault : TreeFault)
          → r ≡ Err fault → (came : Result Came DeviceFault) → IsRefused fault came
          → ActsOnDisk k new i (Some call) came
      refused-acts bad fault e (Ok c) is =
          let up : new.tree.failed ≡ false = acts.failed ∙ ap has_failed e ∙ is.1 in
          let why = (rw e at acts.refused) (device-is fault is.1) in
          rw is.0 (refuses-on (outcome-here x (Some call) ∙ bad why.refused)
          (tree-state acts.limit ∙ ap (with_files (state_of k)) why.same) (over-here up).run.active sound
          (record { up = up; same_device = acts.same_device; later = acts.later }))
      refused-acts bad fault e (Err f) is =
          record {
            down = acts.failed ∙ ap has_failed e ∙ is;
            same_device = acts.same_device;
            later = acts.later;
            rises = acts.cause (e ∙ ap Err (is-device fault is));
          }

      pub named-acts : ((v : T) → r ≡ Ok v → Acts k new i (Some call) (Answers 0))
          → (Bad → outcome_of (state_of k) i (me x) (Some call) ≡ Refused) → ActsNamed k new i call r
      named-acts done bad = go r refl where
        go : (s : Result T TreeFault) → r ≡ s → (came : Result Came DeviceFault) → IsNamed s came
            → ActsOnDisk k new i (Some call) came
        go (Ok v) e came named = rw named (done v e)
        go (Err fault) e came named = refused-acts bad fault e came named

      -- the row makes these files, unless they take too many blocks
      pub makes-acts : {made : Option Files} → row_of x call ≡ with_made (state_of k) made
          → ((v : T) → Done' v → made ≡ Some new.tree.files) → (Bad → Overflows k.tree.block_limit made)
          → ActsNamed k new i call r
      makes-acts {made} is told bad = named-acts
          (λ v e.
          let up : new.tree.failed ≡ false = acts.failed ∙ ap has_failed e in
          does x call 0 (over-here up) (record { up = up; same_device = acts.same_device; later = acts.later })
          (is ∙ ap (with_made (state_of k)) (told v (rw e at acts.done))
          ∙ ap (λ (s : State). Done s 0 []) (sym (tree-state acts.limit))))
          (λ b. ap limited is ∙ made-over (state_of k) made (bad b))

-- ---- the calls

module _ {k : Kernel} {i : ℕ} (x : Here k i) where
  pub link-newless : {old : List ℕ} → Some old ≡ path_argument k i 0 → None ≡ path_argument k i 1
      → Acts k k i (Some Link) Refuses
  unfolding link_row
  link-newless some none = let from = path-is x 0 some in let to =
      path-is x 1 none in refused x (Some Link) (rw (from, to) refl)

  module _ {path : List ℕ} (is : Some path ≡ path_argument k i 0) {new : Kernel} (rest : new ≡ with_tree k new.tree)
      (sound : IsKernel new) where
    pub mknod-acts : {a b : ℕ} → a ≡ argument k 1 → b ≡ argument k 2 → {r : Result ℕ TreeFault}
        → MakesNode k.tree new.tree (directory_at k i) path (leaf_node (leaf.Device (a % 65536) (b % 65536))) r
        → ActsNamed k new i Mknod r
    mknod-acts first second acts =
        makes-acts x rest sound acts Mknod
        (rw (first, second, home-is x) (mknod-row (state_of k) i (me x) path (path-is x 0 is)))
        (λ v made. ap made_files made) (λ over. over)

    pub mkdir-acts : {r : Result (Unit {0}) TreeFault} → MakesDirectory k.tree new.tree (directory_at k i) path r
        → ActsNamed k new i Mkdir r
    mkdir-acts acts = makes-acts x rest sound acts Mkdir
        (rw (home-is x) (mkdir-row (state_of k) i (me x) path (path-is x 0 is))) (λ v made. made) (λ over. over)

    pub link-acts : {to : List ℕ} → Some to ≡ path_argument k i 1 → {r : Result (Unit {0}) TreeFault}
        → MakesLink k.tree new.tree (directory_at k i) path to r → ActsNamed k new i Link r
    link-acts {to} second acts =
        makes-acts x rest sound acts Link
        (rw (home-is x) (link-row (state_of k) i (me x) path to (path-is x 0 is) (path-is x 1 second)))
        (λ v made. made) (λ over. over)
