-- Small cases of the calls on names and nodes, by their rows.
use Rattle.model_examples.proofs.Common.{String, range_with_len, settle, blocks_of, File, Outcome, limited, minus_one}
use Rattle.model_examples.proofs.Common.{Process, State, process_at, put_process, zeros, le, low}
use Rattle.std.specs.Prelude.{◌*◌, ◌+◌, ◌++◌, ◌-◌, ◌<◌, [], Bool, codes, drop, Err, false, flat_map, is_some, IsSome}
use Rattle.std.specs.Prelude.{length, List, map, nat_lt, None, Ok, Option, option_map, refl, replicate, Result, Some}
use Rattle.std.specs.Prelude.{suc, take, true, zero, ◌||◌, ℕ, ◌∷◌, ◌≡◌, ◌≤◌}
use Rattle.unixmodel.specs.FileCalls.{close_row, fstat_row, read_row, write_row}
use Rattle.unixmodel.specs.Shown.{shown_bytes, shown_stat, Stat}
use Rattle.unixmodel.specs.Start.{console_name, console_root, flat_files}
use Rattle.unixmodel.specs.NameCalls.{chdir_row, link_row, mkdir_row, mknod_row, open_row, unlink_row}
use Rattle.unixmodel.specs.ProcessCalls.{sbrk_row}
use Rattle.model_examples.proofs.Scripts.{all_opened, names_opened, Asked, answer_at, asking, bytes_in, flat_state}
use Rattle.model_examples.proofs.Scripts.{plain}
use Rattle.unixmodel.specs.Manifest.{ManifestEntry, Wrong, data_blocks_of, files_made}
use Rattle.unixmodel.specs.Manifest.Thing.{Bytes, Folder, Special}
use Rattle.unixmodel.specs.Manifest.Wrong.{Blocks, Inodes, Name, Numbers, Parent, Twice}
use Rattle.unixmodel.specs.Image.{Denotes, HasSpares, HasSuper, IsDirectory, KeepsNode, KeepsRules, KeepsSize, Stands}
use Rattle.unixmodel.specs.Image.{bit_of, contents_in, is_data_block, is_name, is_named, named_blocks, names_of}
use Rattle.unixmodel.specs.Image.{number_in, numbers_in_use, parent_of, subdirectories, super_number}
use Rattle.unixmodel.specs.Slots.{IsSpare, first_of, holder_of, in_record}
use Rattle.std.proofs.Common.{get_or, ap, arith, lit≤, sym, ◌∙◌, ◌≢◌, inl, inr}
use Rattle.std.proofs.lemmas.Bool.{false≢true, cases_eq}
use Rattle.std.proofs.lemmas.Bool.Decides.{nat_tests}
use Rattle.std.proofs.lemmas.List.FromFn.{get_or-map-range_with_len}
use Rattle.std.proofs.lemmas.List.Sums.{AllPass-from_list_all}
use Rattle.unixmodel.specs.Files.{Node, dot, dot_dot, Entry, Files, links_of, node_bytes, size_of, slot, taken, find}
use Rattle.unixmodel.specs.Formats.{large}

-- a call by its row: its path is at 8192, a second one at 8448
abbrev Named : Type 0
Named = (State → ℕ → Process → Outcome) × Asked

-- process 1 makes it
abbrev does : State → Named → State
does s c = elim (process_at s 0) [
  | None ↦ s
  | Some p ↦ let begun = put_process s 0 (asking p c.1) in (settle begun 0 (limited (c.0 begun 0 (asking p c.1)))).state
]

abbrev after_all : State → List Named → State
after_all s [] = s
after_all s (c ∷ cs) = after_all (does s c) cs

abbrev told_by : State → List Named → List ℕ
told_by s [] = []
told_by s (c ∷ cs) = answer_at (does s c) 0 ∷ told_by (does s c) cs

abbrev with_path : (State → ℕ → Process → Outcome) → String → List ℕ → Named
with_path row path args = (row, record { number = 0; path = codes path; other = []; args = 8192 ∷ args })

abbrev open_at : List ℕ → ℕ → Named
open_at path flags = (open_row, record { number = 0; path = path; other = []; args = 8192 ∷ flags ∷ [] })

abbrev open_path : String → ℕ → Named
open_path path = open_at (codes path)

abbrev mknod : String → ℕ → ℕ → Named
mknod path major minor = with_path mknod_row path (major ∷ minor ∷ [])

abbrev mkdir : String → Named
mkdir path = with_path mkdir_row path []

abbrev chdir : String → Named
chdir path = with_path chdir_row path []

abbrev unlink : String → Named
unlink path = with_path unlink_row path []

abbrev link : String → String → Named
link old new = (link_row, record { number = 0; path = codes old; other = codes new; args = 8192 ∷ 8448 ∷ [] })

abbrev close_of : ℕ → Named
close_of fd = (close_row, plain 0 (fd ∷ []))

-- a stat record comes to 8200
abbrev fstat : ℕ → Named
fstat fd = (fstat_row, plain 0 (fd ∷ 8200 ∷ []))

abbrev read_of : ℕ → ℕ → ℕ → Named
read_of fd address count = (read_row, plain 0 (fd ∷ address ∷ count ∷ []))

abbrev write_of : String → ℕ → ℕ → Named
write_of text fd count =
    (write_row, record { number = 0; path = codes text; other = []; args = fd ∷ 8192 ∷ count ∷ [] })

-- a root with "." and ".." and the console, which is open as descriptors 0, 1 and 2
abbrev at_first : State
at_first = flat_state 64

abbrev made : ℕ
made = 0x201

-- ---- fstat and open

-- each is made and closed, and has the lowest free number
abbrev made_and_closed : ℕ → List Named
made_and_closed letter = open_at (letter ∷ []) made ∷ close_of 3 ∷ []

abbrev four_made : State
four_made = after_all at_first (flat_map made_and_closed (range_with_len 0x61 4))

-- a disk with n files
abbrev filled : ℕ → State
filled n = record at_first
    { files = take 3 at_first.files ++ replicate n (Some (File 1 [])) ++ replicate (13 - n) None }

opening : record {
  console_stat : bytes_in (does at_first (fstat 0)) 0 8200 24 ≡ le 4 1 ++ le 4 2 ++ le 2 3 ++ le 2 1 ++ zeros 12;
  root_stat : bytes_in (after_all at_first (open_path "/" 0 ∷ fstat 3 ∷ [])) 0 8200 24 ≡ le 4 1 ++ le 4 1 ++ le 2 1
      ++ le 2 1 ++ zeros 4 ++ le 8 48;
  -- a directory is opened with flags 0 alone, and a path that finds nothing only where a file is to be made
  flags : told_by at_first
      (open_path "/" 0 ∷ open_path "/" 1 ∷ open_path "f" 0 ∷ open_path "f" made ∷ open_path "/f" 2 ∷ [])
      ≡ 3 ∷ minus_one ∷ minus_one ∷ 4 ∷ 5 ∷ [];
  -- a name is cut to 14 bytes, and is found with more
  long_name : told_by at_first (open_path "abcdefghijklmno" made ∷ open_path "abcdefghijklmnx" 0 ∷ [])
      ≡ 3 ∷ 4 ∷ [];
  short_name : find (does at_first (open_path "abcdefghijklmno" made)).files 1 (codes "abcdefghijklmn") ≡ Some 3;
  -- a path has 127 bytes at the most
  slashes : map (λ n. answer_at (does at_first (open_at (replicate n 0x2f) 0)) 0) (127 ∷ 128 ∷ []) ≡ 3 ∷ minus_one ∷ [];
  numbers : map (find four_made.files 1) (map codes ("a" ∷ "b" ∷ "c" ∷ "d" ∷ [])) ≡ Some 3 ∷ Some 4 ∷ Some 5 ∷ Some 6
      ∷ [];
  lowest_number : find (after_all four_made (unlink "c" ∷ open_path "e" made ∷ [])).files 1 (codes "e") ≡ Some 5;
  -- a disk of 16 numbers has thirteen more
  thirteen : told_by at_first (flat_map made_and_closed (range_with_len 0x61 14))
      ≡ flat_map (λ n. 3 ∷ 0 ∷ []) (range_with_len 3 13) ++ minus_one ∷ minus_one ∷ [];
  last_number : find (does (filled 12) (open_path "f" made)).files 1 (codes "f") ≡ Some 15;
  no_number : told_by (filled 13) (open_path "f" made ∷ mknod "n" 1 0 ∷ mkdir "d" ∷ []) ≡ minus_one ∷ minus_one
      ∷ minus_one ∷ [];
}
unfolding all_opened names_opened
opening = record {
  console_stat = refl;
  root_stat = refl;
  flags = refl;
  long_name = refl;
  short_name = refl;
  slashes = refl;
  numbers = refl;
  lowest_number = refl;
  thirteen = refl;
  last_number = refl;
  no_number = refl;
}

-- ---- devices, directories and links

directories_and_links : record {
  -- one of another major than 1 can be opened up to 9, and isn't read
  devices : told_by at_first
      (mknod "n" 2 0 ∷ open_path "n" 2 ∷ read_of 3 8200 1 ∷ write_of "" 3 1 ∷ mknod "q" 10 0 ∷ open_path "q" 0 ∷ [])
      ≡ 0 ∷ 3 ∷ minus_one ∷ minus_one ∷ 0 ∷ minus_one ∷ [];
  -- one without links finds no name and takes none, but the empty path still opens it
  dead_directory : told_by at_first
      (mkdir "d" ∷ chdir "d" ∷ unlink "/d" ∷ open_path "." 0 ∷ open_path ".." 0 ∷ mkdir "x" ∷ open_path "" 0 ∷ [])
      ≡ 0 ∷ 0 ∷ 0 ∷ minus_one ∷ minus_one ∷ minus_one ∷ 3 ∷ [];
  -- the one above has a link more, until it goes
  parent_links : map (λ cs. option_map links_of (slot (after_all at_first cs).files 1))
      ([] ∷ (mkdir "d" ∷ []) ∷ (mkdir "d" ∷ unlink "d" ∷ []) ∷ []) ≡ Some 1 ∷ Some 2 ∷ Some 1 ∷ [];
  kept_names : told_by at_first
      (mkdir "d" ∷ open_path "d/f" made ∷ unlink "d" ∷ unlink "d/." ∷ unlink "d/f" ∷ unlink "d" ∷ chdir "console" ∷ [])
      ≡ 0 ∷ 3 ∷ minus_one ∷ minus_one ∷ 0 ∷ 0 ∷ minus_one ∷ [];
  second_name : told_by at_first
      (open_path "f" made ∷ link "f" "g" ∷ link "f" "g" ∷ link "/" "r" ∷ unlink "f" ∷ open_path "g" 0 ∷ [])
      ≡ 3 ∷ 0 ∷ minus_one ∷ minus_one ∷ 0 ∷ 4 ∷ [];
}
unfolding all_opened names_opened
directories_and_links = record
    { devices = refl; dead_directory = refl; parent_links = refl; kept_names = refl; second_name = refl }

-- ---- bytes

-- what is open twice has two offsets, and its bytes come after its last name is gone
abbrev nameless : List Named
nameless = open_path "f" 0x202 ∷ open_path "f" 0 ∷ write_of "hi" 3 2 ∷ unlink "f" ∷ read_of 4 8200 9 ∷ read_of 4 8200 9
    ∷ []

-- on a disk of two data blocks the root leaves one to a file
abbrev full_disk : List Named
full_disk = open_path "f" made ∷ write_of "" 3 1025 ∷ []

-- a whole disk of 27 data blocks: 25 of a file, its block of numbers, and the root's
abbrev long_write : List Named
long_write = (sbrk_row, plain 0 (28672 ∷ [])) ∷ open_path "f" made ∷ (write_row, plain 0 (3 ∷ 12288 ∷ 25601 ∷ [])) ∷ []

of_bytes : record {
  nameless_bytes : told_by at_first nameless ≡ 3 ∷ 4 ∷ 2 ∷ 0 ∷ 2 ∷ 0 ∷ [];
  nameless_read : bytes_in (after_all at_first nameless) 0 8200 2 ≡ codes "hi";
  -- with its last descriptor it goes, and its block and number are free
  nameless_goes : map (λ cs. blocks_of (after_all (after_all at_first nameless) cs).files)
      ([] ∷ (close_of 3 ∷ []) ∷ (close_of 3 ∷ close_of 4 ∷ []) ∷ []) ≡ 2 ∷ 2 ∷ 1 ∷ [];
  its_number : find (after_all (after_all at_first nameless) (close_of 3 ∷ close_of 4 ∷ open_path "g" made ∷ [])).files
      1 (codes "g") ≡ Some 3;
  last_block : told_by (record at_first { block_limit = 2 }) (full_disk ++ mkdir "m" ∷ mknod "n" 2 0 ∷ []) ≡ 3
      ∷ minus_one ∷ minus_one ∷ 0 ∷ [];
  what_fits : option_map size_of (slot (after_all (record at_first { block_limit = 2 }) full_disk).files 3) ≡ Some 1024;
  -- a file that is emptied as it is opened
  emptied_file : told_by at_first
      (open_path "f" made ∷ write_of "hi" 3 2 ∷ open_path "f" 0x400 ∷ read_of 4 8200 9 ∷ []) ≡ 3 ∷ 2 ∷ 4 ∷ 0 ∷ [];
  long_file : option_map size_of (slot (after_all at_first long_write).files 3) ≡ Some 25600;
  no_block : told_by at_first
      (long_write ++ mknod "n" 2 0 ∷ mkdir "m" ∷ open_path "n" 0 ∷ read_of 4 8200 1 ∷ mknod "q" 10 0 ∷ open_path "q" 0
      ∷ [])
      ≡ 12288 ∷ 3 ∷ minus_one ∷ 0 ∷ minus_one ∷ 4 ∷ minus_one ∷ 0 ∷ minus_one ∷ [];
}
unfolding all_opened names_opened
of_bytes = record {
  nameless_bytes = refl;
  nameless_read = refl;
  nameless_goes = refl;
  its_number = refl;
  last_block = refl;
  what_fits = refl;
  emptied_file = refl;
  long_file = refl;
  no_block = refl;
}

-- ---- what is shown of files, by their numbers

-- type, links and size
abbrev told : ℕ → ℕ → ℕ → Option Stat
told kind links size = Some (record { kind = kind; links = links; size = size })

-- the three entries of the root
abbrev root_bytes : List ℕ
root_bytes =
    (1 ∷ 0 ∷ codes "." ++ replicate 13 0) ++ (1 ∷ 0 ∷ codes ".." ++ replicate 12 0)
    ++ (2 ∷ 0 ∷ codes "console" ++ replicate 7 0)

-- a file of two bytes, which is still shown while it is open and has no name any more
abbrev with_file : State
with_file = after_all at_first (open_path "f" 0x202 ∷ write_of "hi" 3 2 ∷ [])

shown : record {
  -- the root with three entries, the console, a number that is free, and numbers that no inode has
  at_boot : map (shown_stat at_first) (0 ∷ 1 ∷ 2 ∷ 3 ∷ 15 ∷ 16 ∷ 1000 ∷ [])
      ≡ None ∷ told 1 1 48 ∷ told 3 1 0 ∷ None ∷ None ∷ None ∷ None ∷ [];
  whole_root : shown_bytes at_first 1 0 1000 ≡ root_bytes;
  -- from an offset on, as many as are asked for and are there
  parts_of_root : map (λ at. shown_bytes at_first 1 at 4) (0 ∷ 16 ∷ 32 ∷ 46 ∷ 48 ∷ 1000 ∷ [])
      ≡ (1 ∷ 0 ∷ 0x2e ∷ 0 ∷ []) ∷ (1 ∷ 0 ∷ 0x2e ∷ 0x2e ∷ []) ∷ (2 ∷ 0 ∷ 0x63 ∷ 0x6f ∷ []) ∷ (0 ∷ 0 ∷ []) ∷ [] ∷ [] ∷ [];
  -- a device has no bytes, and neither has a number that names nothing
  no_bytes : map (λ n. shown_bytes at_first n 0 100) (0 ∷ 2 ∷ 3 ∷ 16 ∷ []) ≡ [] ∷ [] ∷ [] ∷ [] ∷ [];
  file_told : shown_stat with_file 3 ≡ told 2 1 2;
  file_bytes : map (λ at. shown_bytes with_file 3 at 10) (0 ∷ 1 ∷ 2 ∷ []) ≡ codes "hi" ∷ codes "i" ∷ [] ∷ [];
  without_name : map (λ s. shown_stat s 3)
      (does with_file (unlink "f") ∷ after_all with_file (unlink "f" ∷ close_of 3 ∷ []) ∷ [])
      ≡ told 2 0 2 ∷ None ∷ [];
  -- a directory has one link, and gives one to the root
  a_directory : map (shown_stat (does at_first (mkdir "d"))) (1 ∷ 3 ∷ []) ≡ told 1 2 64 ∷ told 1 1 32 ∷ [];
}
unfolding all_opened names_opened
shown = record {
  at_boot = refl;
  whole_root = refl;
  parts_of_root = refl;
  no_bytes = refl;
  file_told = refl;
  file_bytes = refl;
  without_name = refl;
  a_directory = refl;
}

-- ---- small manifests: what they make, and what is wrong with others

abbrev dir_at : List ℕ → ManifestEntry
dir_at path = record { path = path; thing = Folder }

abbrev dir : String → ManifestEntry
dir path = dir_at (codes path)

abbrev file : String → ℕ → ManifestEntry
file path n = record { path = codes path; thing = Bytes (zeros n) }

abbrev counts : Files → ℕ × ℕ
counts files = (length (taken files), blocks_of files)

-- how many inodes and blocks are in use, or what is wrong
abbrev counted : Result Files Wrong → Result (ℕ × ℕ) Wrong
counted (Ok files) = Ok (counts files)
counted (Err w) = Err w

abbrev small : List ManifestEntry → Result (ℕ × ℕ) Wrong
small entries = counted (files_made entries 32 16)

abbrev letters : ℕ → List ManifestEntry
letters n = map (λ k. dir_at (0x2f ∷ (0x61 + k) ∷ [])) (range_with_len 0 n)

numbers_and_names : record {
  empty : small [] ≡ Ok (1, 1);
  default_blocks : map (λ (g : ℕ × ℕ). data_blocks_of g.0 g.1) ((2000, 200) ∷ (131072, 16) ∷ []) ≡ 1984 ∷ 131051 ∷ [];
  made_numbers : map (λ (g : ℕ × ℕ). counted (files_made [] g.0 g.1))
      ((32, 447) ∷ (131072, 16) ∷ (32, 448) ∷ (31, 16) ∷ (131073, 16) ∷ (32, 15) ∷ (131072, 8193) ∷ [])
      ≡ replicate 2 (Ok (1, 1)) ++ replicate 5 (Err Numbers);
  -- the twelfth block of a file takes two
  one_file : map (λ n. small (file "/a" n ∷ [])) (0 ∷ 11264 ∷ 11265 ∷ 12288 ∷ 12289 ∷ 25600 ∷ 25601 ∷ [])
      ≡ Ok (2, 1) ∷ Ok (2, 12) ∷ Ok (2, 14) ∷ Ok (2, 14) ∷ Ok (2, 15) ∷ Ok (2, 27) ∷ Err Blocks ∷ [];
  many : map (λ n. small (letters n)) (14 ∷ 15 ∷ []) ≡ Ok (15, 15) ∷ Err Inodes ∷ [];
  names : map (λ path. small (dir_at path ∷ []))
      (map codes ("/abcdefghijklmn" ∷ "/abcdefghijklmno" ∷ "a" ∷ "/" ∷ "/a/" ∷ "//a" ∷ "/." ∷ "/.." ∷ "" ∷ [])
      ++ (0x2f ∷ 0 ∷ []) ∷ [])
      ≡ Ok (2, 2) ∷ replicate 9 (Err Name);
  -- no parent, one that is a file, and a name twice
  faults : map small ((dir "/a/b" ∷ []) ∷ (file "/a" 1 ∷ dir "/a/b" ∷ []) ∷ (dir "/a" ∷ file "/a" 0 ∷ []) ∷ [])
      ≡ Err Parent ∷ Err Parent ∷ Err Twice ∷ [];
  -- the missing parent is reported before the name that is there already, and that before the lack of numbers
  order : map small ((dir "/a" ∷ dir "/b/a" ∷ dir "/a" ∷ []) ∷ (letters 14 ++ dir "/a" ∷ []) ∷ []) ≡ Err Parent
      ∷ Err Twice ∷ [];
}
unfolding all_opened
numbers_and_names = record {
  empty = refl;
  default_blocks = refl;
  made_numbers = refl;
  one_file = refl;
  many = refl;
  names = refl;
  faults = refl;
  order = refl;
}

-- ---- the files

abbrev node_of : Result Files Wrong → ℕ → Option (Option ℕ)
node_of (Err w) n = None
node_of (Ok files) n = Some (elim (slot files n) [ None ↦ None | Some node ↦ Some (links_of node) ])

abbrev tree : Result Files Wrong
tree = files_made (dir "/a" ∷ dir "/a/b" ∷ file "/a/b/c" 5 ∷ []) 32 16

abbrev found : Result Files Wrong → List ℕ → Option ℕ
found (Err w) path = None
found (Ok files) path = find files 1 path

trees : record {
  console : files_made (record { path = codes "/console"; thing = Special 1 0 } ∷ []) 32 16 ≡ Ok flat_files;
  tree_links : map (node_of tree) (range_with_len 0 6) ≡ Some None ∷ Some (Some 2) ∷ Some (Some 2) ∷ Some (Some 1)
      ∷ Some (Some 1) ∷ Some None ∷ [];
  tree_names : map (found tree) (map codes ("/a" ∷ "/a/b" ∷ "/a/b/c" ∷ "/a/b/.." ∷ "/b" ∷ [])) ≡ Some 2 ∷ Some 3
      ∷ Some 4 ∷ Some 2 ∷ None ∷ [];
}
unfolding all_opened
trees = record { console = refl; tree_links = refl; tree_names = refl }

-- ---- the image of a root with the console: 32 blocks, 16 inodes

abbrev console_image : List ℕ
console_image =
    zeros 1024
    ++ le 4 0x10203041 ++ le 4 32 ++ le 4 27 ++ le 4 16 ++ le 4 0 ++ le 4 2 ++ le 4 2 ++ le 4 4 ++ zeros 992
    ++ zeros 64
    ++ le 2 1 ++ le 2 0 ++ le 2 0 ++ le 2 1 ++ le 4 48 ++ le 4 5 ++ zeros 48
    ++ le 2 3 ++ le 2 1 ++ le 2 0 ++ le 2 1 ++ le 4 0 ++ zeros 52
    ++ zeros (13 * 64)
    ++ zeros 1024
    ++ 0x3f ∷ zeros 1023
    ++ node_bytes console_root ++ zeros 976
    ++ zeros (26 * 1024)

image : record {
  image_numbers : length console_image ∷ map (super_number console_image) (range_with_len 0 8) ≡ 32768 ∷ 0x10203041
      ∷ 32 ∷ 27 ∷ 16 ∷ 0 ∷ 2 ∷ 2 ∷ 4 ∷ [];
  image_nodes : numbers_in_use console_image ≡ 1 ∷ 2 ∷ [];
  image_blocks : named_blocks console_image ≡ 5 ∷ [];
  -- the direct numbers that nothing asks for, and those of the index blocks
  image_spares : (map (number_in console_image 1) (range_with_len 1 10)
      ++ map (number_in console_image 2) (range_with_len 0 11))
      ++ map (number_in console_image 1) (65803 ∷ 65804 ∷ [])
      ++ map (number_in console_image 2) (65803 ∷ 65804 ∷ []) ≡ zeros 25;
  image_root : contents_in console_image 1 ≡ node_bytes console_root;
  image_bits : map (bit_of console_image) (range_with_len 0 8) ≡ true ∷ true ∷ true ∷ true ∷ true ∷ true ∷ false
      ∷ false ∷ [];
  -- the rules of its files
  root_links : (names_of flat_files 1 ∷ names_of flat_files 2 ∷ subdirectories flat_files 1 ∷ parent_of flat_files 1
      ∷ []) ≡ 0 ∷ 1 ∷ 0 ∷ 1 ∷ [];
}
unfolding all_opened
image = record {
  image_numbers = refl;
  image_nodes = refl;
  image_blocks = refl;
  image_spares = refl;
  image_root = refl;
  image_bits = refl;
  root_links = refl;
}

-- ---- the image denotes these files

console_super : HasSuper console_image
unfolding all_opened
console_super = record {
  whole = refl;
  size_least = lit≤ tt;
  size_most = lit≤ tt;
  inodes_least = lit≤ tt;
  inodes_most = lit≤ tt;
  log_size = refl;
  log_start = refl;
  inode_start = refl;
  bitmap = refl;
  blocks = refl;
  some_blocks = lit≤ tt;
}

console_stands : (n : ℕ) → 1 ≤ n → n < 16 → Stands console_image n (slot flat_files n)
unfolding all_opened
console_stands (suc (suc (suc (suc (suc (suc (suc (suc (suc (suc (suc (suc (suc (suc (suc (suc n)))))))))))))))) low
    high = absurd (omega arith)
console_stands zero low high = absurd (omega arith)
console_stands (suc zero) low high = record { kind = refl; links = refl; size = refl; contents = refl; major = tt }
console_stands (suc (suc zero)) low high =
    record { kind = refl; links = refl; size = refl; contents = refl; major = (refl, refl) }
console_stands _ low high = refl

-- what holds of all indices of a list holds of each
same-at : {A : Type 0} (f g : ℕ → A) (from n k : ℕ) → map f (range_with_len from n) ≡ map g (range_with_len from n)
    → from ≤ k → k < from + n → f k ≡ g k
same-at f g from n k all low high =
    sym (get_or-map-range_with_len f from n (k - from) k (f k) (omega arith) (omega arith))
    ∙ ap (λ xs. get_or xs (k - from) (f k)) all
    ∙ get_or-map-range_with_len g from n (k - from) k (f k) (omega arith) (omega arith)

console_bits : (b : ℕ) → b < 32 → bit_of console_image b ≡ (nat_lt b 5 || is_named console_image b)
unfolding all_opened
console_bits b l = same-at (bit_of console_image) (λ n. nat_lt n 5 || is_named console_image n) 0 32 b refl
    (omega arith) l

-- of at most 11 blocks the spare numbers are direct ones after them, and those of the index blocks
spare_own : (count k : ℕ) → count ≤ 11 → IsSpare large count k → in_record large k ≡ true
unfolding in_record holder_of first_of
spare_own count k few s = by_place (in_record large k) refl where
  by_place : (b : Bool) → in_record large k ≡ b → in_record large k ≡ true
  by_place true own = own
  by_place false apart =
      let reached : first_of large (holder_of large k) < count = (s.index apart).reached in
      absurd (grind (arith, nat_tests))

spare_direct : (count k : ℕ) → count ≤ 11 → IsSpare large count k → k ≢ 65803 → k ≢ 65804 → (count ≤ k) × (k < 11)
unfolding in_record first_of
spare_direct count k few s single double =
    let own : in_record large k ≡ true = spare_own count k few s in
    let unreached : count ≤ first_of large k = s.unreached in
    let low : k < 11 = grind (arith, nat_tests) in
    (grind (arith, nat_tests), low)

-- so what is 0 at those indices is 0 at each spare one
at_places : (count : ℕ) (number : ℕ → ℕ) → count ≤ 11 → number 65803 ≡ 0 → number 65804 ≡ 0
    → ((k : ℕ) → count ≤ k → k < 11 → number k ≡ 0) → (k : ℕ) → IsSpare large count k → number k ≡ 0
at_places count number few single double direct k s = elim (cases_eq k 65803) [
  | inl here ↦ ap number here ∙ single
  | inr one ↦ elim (cases_eq k 65804) [
    | inl here ↦ ap number here
        ∙ double
    | inr two ↦ let at = spare_direct count k few s one two in direct k at.0 at.1
  ]
]

root_spares : HasSpares console_image 1
unfolding all_opened
root_spares = at_places 1 (number_in console_image 1) (lit≤ tt) refl refl
    (λ k. same-at (number_in console_image 1) (λ _. 0) 1 10 k refl)

device_spares : HasSpares console_image 2
unfolding all_opened
device_spares = at_places 0 (number_in console_image 2) (lit≤ tt) refl refl
    (λ k. same-at (number_in console_image 2) (λ _. 0) 0 11 k refl)

console_spares : (k d : ℕ) → k < 2 → HasSpares console_image (get_or (1 ∷ 2 ∷ []) k d)
console_spares zero d l = root_spares
console_spares (suc zero) d l = device_spares
console_spares (suc (suc k)) d l = absurd (omega arith)

-- what holds of the root, of the console and of none holds of all of its files
flat_each : (P : ℕ → Option Node → Type 0) → P 1 (slot flat_files 1) → P 2 (slot flat_files 2) → ((n : ℕ) → P n None)
    → (n : ℕ) → P n (slot flat_files n)
unfolding all_opened
flat_each P root device none (suc zero) = root
flat_each P root device none (suc (suc zero)) = device
flat_each P root device none
    (suc (suc (suc (suc (suc (suc (suc (suc (suc (suc (suc (suc (suc (suc (suc (suc n)))))))))))))))) = none _
flat_each P root device none n = none n

root_places : List (Option Entry)
root_places =
    Some (record { name = dot; number = 1 }) ∷ Some (record { name = dot_dot; number = 1 })
    ∷ Some (record { name = console_name; number = 2 }) ∷ []

root_keeps : IsDirectory flat_files 1 1 root_places
unfolding all_opened root_places
root_keeps = record {
  own = refl;
  parent = refl;
  names = AllPass-from_list_all (λ (e : Entry). is_name e.name) (taken (drop 2 root_places)) refl;
  once = λ i j d below l. let one : j < 1 = l in absurd (omega arith);
  numbers = AllPass-from_list_all (λ (e : Entry). is_some (slot flat_files e.number)) (taken (drop 2 root_places)) refl;
  named = refl;
  counted = refl;
}

console_rules : KeepsRules flat_files
unfolding all_opened root_places
console_rules = record {
  root = refl;
  sizes = flat_each (λ n o. KeepsSize o) (lit≤ tt) (lit≤ tt) (λ n. tt);
  nodes = flat_each (KeepsNode flat_files) root_keeps (record { counted = refl; least = lit≤ tt; most = lit≤ tt })
      (λ n. tt);
  reached = flat_each (λ n o. IsSome o → (path : List ℕ) × (find flat_files 1 path ≡ Some n)) (λ used. ([], refl))
      (λ used. (console_name, refl)) (λ n used. absurd (false≢true used));
}

console_denotes : Denotes console_image flat_files
unfolding all_opened
console_denotes = record {
  magic = refl;
  super = console_super;
  count = refl;
  zero = refl;
  nodes = console_stands;
  blocks = AllPass-from_list_all (is_data_block console_image) (named_blocks console_image) refl;
  spares = console_spares;
  once = λ i j d below l. let one : j < 1 = l in absurd (omega arith);
  bitmap = console_bits;
  rules = console_rules;
}
