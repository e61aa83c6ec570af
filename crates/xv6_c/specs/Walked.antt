-- The walk of an address through the page table of a process.
use Rattle.std.specs.Prelude.{List, None, Option, Some, ℕ, ⊤, ◌/◌, ◌≡◌}
use Rattle.unixmodel.specs.Process.{Process}
use Rattle.unixmodel.specs.Shown.{ShowsMemory}
use Rattle.walks.specs.Walks.{entries_read, walk_told}
use Rattle.walks.specs.declared.WalkTold.{WalkTold}

-- what is read in a memory of this machine, from the root of the process's page table on
pub record IsWalk (p : Process) (address : ℕ) (told : WalkTold) : Type 0 where
  pub ram : List (List ℕ)
  pub root : ℕ
  pub shows : ShowsMemory ram root p.memory
  pub is : told ≡ walk_told (entries_read ram root (address / 4096))

abbrev pub ShowsWalk : Option Process → ℕ → Option WalkTold → Type 0
ShowsWalk None address None = ⊤
ShowsWalk None address (Some told) = ⊥
ShowsWalk (Some p) address None = ⊥
ShowsWalk (Some p) address (Some told) = IsWalk p address told
