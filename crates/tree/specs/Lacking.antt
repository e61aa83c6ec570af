-- Why a call on names is refused.
use Rattle.std.specs.Prelude.{List, None, Some, true, ⊤, ℕ, ◌⊎◌, ◌≡◌, ◌≤◌}
use Rattle.tree.specs.declared.TreeFault.{TreeFault}
use Rattle.tree.specs.declared.TreeFault.TheVariants.{Blocks, DeadDir, Device, DotName, Exists, Full, Inodes, IsDir}
use Rattle.tree.specs.declared.TreeFault.TheVariants.{Links, NotDir, NotEmpty, NotFound}
use Rattle.tree.specs.Entering.{IsFullAt, IsThere, LacksBlocks, Reaches}
use Rattle.tree.specs.Paths.{LacksSpot}
use Rattle.tree.specs.Unlinks.{IsBusy}
use Rattle.unixmodel.specs.Files.{Files, Node, Spot, find, free_number, is_directory, is_dot_name, links_of, lookup}
use Rattle.unixmodel.specs.Files.{most_links, slot, spot_of}

-- this holds of the spot of a path
pub record HasSpot (files : Files) (d : ℕ) (path : List ℕ) (P : Spot → Type 0) : Type 0 where
  pub at : Spot
  pub spot : spot_of files d path ≡ Some at
  pub is : P at

-- why there is no room for a name
abbrev pub LacksGap : ℕ → Files → ℕ → List ℕ → ℕ → TreeFault → Type 0
LacksGap limit files d path more NotFound = LacksSpot files d path NotFound
LacksGap limit files d path more NotDir = LacksSpot files d path NotDir
LacksGap limit files d path more DeadDir = LacksSpot files d path DeadDir
LacksGap limit files d path more Exists = IsThere files d path
LacksGap limit files d path more Full = IsFullAt files d path
LacksGap limit files d path more Blocks = LacksBlocks limit files d path more
LacksGap limit files d path more Device = ⊤
LacksGap limit files d path more _ = ⊥

-- why no node is made
abbrev pub LacksMaking : ℕ → Files → ℕ → List ℕ → ℕ → TreeFault → Type 0
LacksMaking limit files d path more Inodes = free_number files ≡ None
LacksMaking limit files d path more NotFound = LacksGap limit files d path more NotFound
LacksMaking limit files d path more NotDir = LacksGap limit files d path more NotDir
LacksMaking limit files d path more DeadDir = LacksGap limit files d path more DeadDir
LacksMaking limit files d path more Exists = LacksGap limit files d path more Exists
LacksMaking limit files d path more Full = LacksGap limit files d path more Full
LacksMaking limit files d path more Blocks = LacksGap limit files d path more Blocks
LacksMaking limit files d path more Device = ⊤
LacksMaking limit files d path more _ = ⊥

-- the node of a number has all the links that there are
pub record HasAllLinks (files : Files) (n : ℕ) : Type 0 where
  pub node : Node
  pub here : slot files n ≡ Some node
  pub many : most_links ≤ links_of node

-- why no directory is made: beside the blocks of its name it takes one
abbrev pub LacksFolder : ℕ → Files → ℕ → List ℕ → TreeFault → Type 0
LacksFolder limit files d path Links = HasSpot files d path (λ at. HasAllLinks files at.directory)
LacksFolder limit files d path NotFound = LacksMaking limit files d path 1 NotFound
LacksFolder limit files d path NotDir = LacksMaking limit files d path 1 NotDir
LacksFolder limit files d path DeadDir = LacksMaking limit files d path 1 DeadDir
LacksFolder limit files d path Exists = LacksMaking limit files d path 1 Exists
LacksFolder limit files d path Full = LacksMaking limit files d path 1 Full
LacksFolder limit files d path Blocks = LacksMaking limit files d path 1 Blocks
LacksFolder limit files d path Inodes = LacksMaking limit files d path 1 Inodes
LacksFolder limit files d path Device = ⊤
LacksFolder limit files d path _ = ⊥

-- why there is no other name
abbrev pub LacksLinking : ℕ → Files → ℕ → List ℕ → List ℕ → TreeFault → Type 0
LacksLinking limit files d old new NotFound = (find files d old ≡ None) ⊎ LacksGap limit files d new 0 NotFound
LacksLinking limit files d old new IsDir = Reaches files d old (λ node. is_directory node ≡ true)
LacksLinking limit files d old new Links = Reaches files d old (λ node. most_links ≤ links_of node)
LacksLinking limit files d old new NotDir = LacksGap limit files d new 0 NotDir
LacksLinking limit files d old new DeadDir = LacksGap limit files d new 0 DeadDir
LacksLinking limit files d old new Exists = LacksGap limit files d new 0 Exists
LacksLinking limit files d old new Full = LacksGap limit files d new 0 Full
LacksLinking limit files d old new Blocks = LacksGap limit files d new 0 Blocks
LacksLinking limit files d old new Device = ⊤
LacksLinking limit files d old new _ = ⊥

-- why no name goes
abbrev pub LacksUnlinking : Files → ℕ → List ℕ → TreeFault → Type 0
LacksUnlinking files d path NotFound = LacksSpot files d path NotFound
    ⊎ HasSpot files d path (λ at. lookup files at.directory at.name ≡ None)
LacksUnlinking files d path NotDir = LacksSpot files d path NotDir
LacksUnlinking files d path DeadDir = LacksSpot files d path DeadDir
LacksUnlinking files d path DotName = HasSpot files d path (λ at. is_dot_name at.name ≡ true)
LacksUnlinking files d path NotEmpty = HasSpot files d path (IsBusy files)
LacksUnlinking files d path Device = ⊤
LacksUnlinking files d path _ = ⊥
