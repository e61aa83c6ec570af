-- The calls on names: what each makes of the files, from the spot of a name on, and their rows in the table of calls:
-- open, mknod, mkdir, link, unlink, chdir. From xv6; every refusal changes nothing.
use Rattle.std.specs.Prelude.{Bool, List, None, Option, Some, [], drop, if◌then◌else◌, is_none, length, nat_le, nat_lt}
use Rattle.std.specs.Prelude.{not, option_and_then, option_map, true, ℕ, ◌%◌, ◌&&◌, ◌+◌, ◌-◌, ◌==◌, ◌^◌, ◌||◌, ◌∷◌}
use Rattle.unixmodel.specs.FileCalls.{with_descriptor}
use Rattle.unixmodel.specs.Files.{Files, Node, Spot, change_node, dot, dot_dot, enter, erase, find, free_number}
use Rattle.unixmodel.specs.Files.{free_slot, is_directory, is_dot_name, links_of, lookup, most_links, place_of, put}
use Rattle.unixmodel.specs.Files.{slot, spot_of, taken, with_links}
use Rattle.unixmodel.specs.Files.Node.{Device, Directory, File}
use Rattle.unixmodel.specs.Memory.{path_at}
use Rattle.unixmodel.specs.Numbers.{has_bit, low}
use Rattle.unixmodel.specs.OpenFiles.{OpenFile}
use Rattle.unixmodel.specs.OpenFiles.Target.{OnNode}
use Rattle.unixmodel.specs.Outcome.{Outcome, answers, given, provided}
use Rattle.unixmodel.specs.Process.{Process, arg}
use Rattle.unixmodel.specs.State.{State, put_process}

abbrev pub more_links : Node → Node
more_links node = with_links node (links_of node + 1)

abbrev pub fewer_links : Node → Node
fewer_links node = with_links node (links_of node - 1)

abbrev pub has_room_for_link : Node → Bool
has_room_for_link node = nat_lt (links_of node) most_links

abbrev pub is_free_name : Files → Spot → Bool
is_free_name files at = is_none (lookup files at.directory at.name)

-- ---- making a node

-- the files with a new node, and its number
pub record Made : Type 0 where
  pub files : Files
  pub number : ℕ

-- a node with the lowest free number, and a name for it; the node may hold its number
unfoldable pub make_at : Files → Spot → (ℕ → Node) → Option Made
make_at files at node =
    option_and_then (λ n. option_map (λ (new : Files). record { files = new; number = n })
    (enter (put files n (node n)) at n))
    (free_number files)

-- a file or a device, where the name is free
unfoldable pub made_at : Files → Spot → (ℕ → Node) → Option Made
made_at files at node = if is_free_name files at then make_at files at node else None

-- an open file that is to be empty
abbrev pub emptied : Node → Node
emptied (File links bytes) = File links []
emptied (Device links major minor) = Device links major minor
emptied (Directory links places) = Directory links places

-- a directory: the one above has one more link
abbrev pub new_directory : ℕ → ℕ → Node
new_directory parent n =
    Directory 1 (Some (record { name = dot; number = n }) ∷ Some (record { name = dot_dot; number = parent }) ∷ [])

abbrev pub made_below : Files → Spot → Option Node → Option Files
made_below files at None = None
made_below files at (Some parent) =
    if is_free_name files at && has_room_for_link parent
    then option_map (λ (made : Made). change_node made.files at.directory more_links)
    (make_at files at (new_directory at.directory))
    else None

unfoldable pub made_directory : Files → Spot → Option Files
made_directory files at = made_below files at (slot files at.directory)

-- ---- link: the files with one more name for number n

abbrev pub linked_node : Files → Spot → ℕ → Option Node → Option Files
linked_node files at n None = None
linked_node files at n (Some node) =
    if not (is_directory node) && has_room_for_link node
    && is_free_name files at then enter (change_node files n more_links) at n else None

unfoldable pub linked : Files → Spot → ℕ → Option Files
linked files at n = linked_node files at n (slot files n)

-- ---- unlink: a directory must have no entries past its first two, and its parent has one link fewer

abbrev pub may_remove : Node → Bool
may_remove (File links bytes) = true
may_remove (Device links major minor) = true
may_remove (Directory links places) = length (taken (drop 2 places)) == 0

abbrev pub without_name : Files → ℕ → ℕ → ℕ → Node → Files
without_name files d k n node =
    let less = change_node (erase files d k) n fewer_links in
    if is_directory node then change_node less d fewer_links else less

abbrev pub removed_node : Files → ℕ → ℕ → ℕ → Option Node → Option Files
removed_node files d k n None = None
removed_node files d k n (Some node) = if may_remove node then Some (without_name files d k n node) else None

unfoldable pub unlinked : Files → Spot → Option Files
unlinked files at =
    if is_dot_name at.name then None
    else option_and_then (λ k. option_and_then (λ n. removed_node files at.directory k n (slot files n))
    (lookup files at.directory at.name))
    (place_of files at.directory at.name)

-- ---- the rows; process p in slot i makes the call, and its pc has moved already

-- the path in an argument
abbrev pub path_arg : Process → ℕ → Option (List ℕ)
path_arg p k = path_at p.memory (arg p k)

abbrev pub with_files : State → Files → State
with_files s files = record s { files = files }

-- ---- open

abbrev pub creates : ℕ → Bool
creates f = has_bit f 9

abbrev pub truncates : ℕ → Bool
truncates f = has_bit f 10

abbrev pub new_file : ℕ → Node
new_file n = File 1 []

-- the node that a path finds; where none is found, and the flags say so, a new file
abbrev pub found_or_made : Files → ℕ → List ℕ → ℕ → Option ℕ → Option Made
found_or_made files d path f (Some n) = Some (record { files = files; number = n })
found_or_made files d path f None =
    if creates f then option_and_then (λ at. make_at files at new_file) (spot_of files d path) else None

-- a directory is opened with flags 0 alone; the major of a device is 0 to 9
abbrev pub may_open : ℕ → Node → Bool
may_open f (File links bytes) = true
may_open f (Device links major minor) = nat_le major 9
may_open f (Directory links places) = f == 0

abbrev pub truncated : ℕ → Made → Files
truncated f got = if truncates f then change_node got.files got.number emptied else got.files

-- readable unless bit 0 is set, writable with bit 0 or bit 1
abbrev pub opened : ℕ → ℕ → OpenFile
opened f n = record { target = OnNode n 0; readable = not (has_bit f 0); writable = has_bit f 0 || has_bit f 1 }

unfoldable pub open_row : State → ℕ → Process → Outcome
open_row s i p =
    let f = low (arg p 1) in
    given (path_arg p 0) λ path.
    given (found_or_made s.files p.directory path f (find s.files p.directory path)) λ got.
    given (slot got.files got.number) λ node.
    provided (may_open f node) (
    given (free_slot p.descriptors) λ fd.
    given (free_slot s.opens) λ k.
    answers (record s {
      places = put s.places i (with_descriptor p fd k);
      files = truncated f got;
      opens = put s.opens k (opened f got.number);
    }) fd)

-- ---- mknod: major and minor are cut to 16 bits

unfoldable pub mknod_row : State → ℕ → Process → Outcome
mknod_row s i p =
    given (path_arg p 0) λ path.
    given (spot_of s.files p.directory path) λ at.
    given (made_at s.files at (λ n. Device 1 (arg p 1 % 2 ^ 16) (arg p 2 % 2 ^ 16))) λ made.
    answers (with_files s made.files) 0

-- ---- mkdir

unfoldable pub mkdir_row : State → ℕ → Process → Outcome
mkdir_row s i p =
    given (path_arg p 0) λ path.
    given (spot_of s.files p.directory path) λ at.
    given (made_directory s.files at) λ files.
    answers (with_files s files) 0

-- ---- link

unfoldable pub link_row : State → ℕ → Process → Outcome
link_row s i p =
    given (path_arg p 0) λ old.
    given (path_arg p 1) λ new.
    given (find s.files p.directory old) λ n.
    given (spot_of s.files p.directory new) λ at.
    given (linked s.files at n) λ files.
    answers (with_files s files) 0

-- ---- unlink

unfoldable pub unlink_row : State → ℕ → Process → Outcome
unlink_row s i p =
    given (path_arg p 0) λ path.
    given (spot_of s.files p.directory path) λ at.
    given (unlinked s.files at) λ files.
    answers (with_files s files) 0

-- ---- chdir

unfoldable pub chdir_row : State → ℕ → Process → Outcome
chdir_row s i p =
    given (path_arg p 0) λ path.
    given (find s.files p.directory path) λ n.
    given (slot s.files n) λ node.
    provided (is_directory node) (
    answers (put_process s i (record p { directory = n })) 0)
