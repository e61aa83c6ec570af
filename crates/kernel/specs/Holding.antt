-- Who holds the nodes of the disk: open files, and the processes that work in a directory.
use Rattle.std.specs.Prelude.{IfSome, List, None, Option, Some, [], false, if◌then◌else◌, option_and_then, sum_by, ℕ}
use Rattle.std.specs.Prelude.{◌++◌, ◌+◌, ◌==◌, ◌∷◌, ◌≡◌, ◌≢◌, ◌≤◌}
use Rattle.files.specs.Counts.{one_in}
use Rattle.files.specs.declared.file.OpenFile.{OpenFile}
use Rattle.files.specs.declared.file.Target.{Target}
use Rattle.files.specs.declared.file.Target.TheVariants as target
use Rattle.files.specs.Places.{Counted, closed, last_target}
use Rattle.name_rules.specs.Rules.{KeepsTree}
use Rattle.proc.specs.declared.process.Process.{Process}
use Rattle.tree.specs.Holding.{holders, let_go, without_hold}
use Rattle.tree.specs.Tree.{FileTree}
use Rattle.unixmodel.specs.Counts.{blocks_of}
use Rattle.unixmodel.specs.Files.{Files, Node, links_of, longest, slot}
use Rattle.unixmodel.specs.Files.Node.{Device, Directory, File}
use Rattle.unixmodel.specs.Process.{is_zombie_mode}

-- ---- what is held

-- the node that an open file is on
abbrev pub node_on : Target → Option ℕ
node_on (target.File number offset) = Some number
node_on (target.Console number) = Some number
node_on (target.Device number) = Some number
node_on (target.Pipe pipe end) = None

abbrev pub node_in : Option Counted → Option ℕ
node_in None = None
node_in (Some c) = node_on c.file.target

-- the directory that a process works in; a zombie has none
abbrev pub home_in : Option Process → Option ℕ
home_in None = None
home_in (Some p) = if is_zombie_mode p.mode then None else Some p.directory

-- how many open files are on node n, and how many processes work there
abbrev pub files_on : List (Option Counted) → ℕ → ℕ
files_on opens n = sum_by (λ o. one_in n (node_in o)) opens

abbrev pub homes_at : List (Option Process) → ℕ → ℕ
homes_at places n = sum_by (λ o. one_in n (home_in o)) places

-- ---- what is known of it

-- an open file may be on that node
abbrev pub FitsNode : OpenFile → Target → Option Node → Type 0
FitsNode f (target.Pipe pipe end) _ = Unit {0}
FitsNode f (target.File number offset) (Some (File links bytes)) = offset ≤ longest
FitsNode f (target.File number offset) (Some (Directory links places)) = (offset ≤ longest) × (f.writable ≡ false)
FitsNode f (target.Console number) (Some (Device links major minor)) = major ≡ 1
FitsNode f (target.Device number) (Some (Device links major minor)) = (major == 1) ≡ false
FitsNode f _ _ = ⊥

abbrev pub node_of : Files → Option ℕ → Option Node
node_of files None = None
node_of files (Some n) = slot files n

-- an open file fits the node that it is on
abbrev pub FitsFiles : Files → OpenFile → Type 0
FitsFiles files f = FitsNode f f.target (node_of files (node_on f.target))

abbrev pub IsFolder : Option Node → Type 0
IsFolder (Some (Directory links places)) = Unit {0}
IsFolder _ = ⊥

-- files that open files and processes use: the rules of names hold, who holds a node is counted, a node without links
-- is held, and what is held is there and of its type
pub record IsInUse (t : FileTree) (opens : List (Option Counted)) (places : List (Option Process)) : Type 0 where
  pub rules : KeepsTree t.files
  pub zero : slot t.files 0 ≡ None
  pub within : blocks_of t.files ≤ t.block_limit
  pub holds : (n : ℕ) → holders t.holds n ≡ files_on opens n + homes_at places n
  pub held : (n : ℕ) (node : Node) → slot t.files n ≡ Some node → links_of node ≡ 0 → 1 ≤ holders t.holds n
  pub fits : (k : ℕ) (c : Counted) → slot opens k ≡ Some c → FitsFiles t.files c.file
  pub homes : (i : ℕ) → IfSome (home_in (slot places i)) (λ d. IsFolder (slot t.files d))

-- ---- changes

-- one that held node n lets go
abbrev pub dropped : FileTree → ℕ → FileTree
dropped t n = record t { files = let_go (without_hold t.holds n) t.files n; holds = without_hold t.holds n }

abbrev pub all_dropped : FileTree → List ℕ → FileTree
all_dropped t [] = t
all_dropped t (n ∷ ns) = all_dropped (dropped t n) ns

-- the same, except for the count of the device's failures
abbrev pub HasDropped : FileTree → FileTree → List ℕ → Type 0
HasDropped old new ns = new ≡ record (all_dropped old ns) { failures = new.failures }

-- each is a node that is held, as often as it is named
abbrev pub AreHeld : FileTree → List ℕ → Type 0
AreHeld t [] = Unit {0}
AreHeld t (n ∷ ns) = (slot t.files n ≢ None) × ((1 ≤ holders t.holds n) × AreHeld (dropped t n) ns)

-- the node of an open file whose last descriptor is closed
abbrev pub last_node : List (Option Counted) → ℕ → Option ℕ
last_node opens n = option_and_then node_on (last_target opens n)

abbrev pub listed : Option ℕ → List ℕ
listed None = []
listed (Some n) = n ∷ []

-- the nodes of those that go as these descriptors are closed, one after the other
abbrev pub gone_nodes : List (Option Counted) → List (Option ℕ) → List ℕ
gone_nodes opens [] = []
gone_nodes opens (None ∷ ds) = gone_nodes opens ds
gone_nodes opens (Some n ∷ ds) = listed (last_node opens n) ++ gone_nodes (closed opens n) ds
