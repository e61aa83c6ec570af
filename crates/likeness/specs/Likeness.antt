-- What is compared of two kernels, and what a comparison of their files leaves.
use Rattle.std.specs.Prelude.{Err, Ok, Result, ◌≡◌}
use Rattle.kernel.specs.Disk.{HasRead, IsLost}
use Rattle.kernel.specs.Kernel.{Kernel}
use Rattle.likeness.specs.declared.nodes.Side.{Side}
use Rattle.likeness.specs.declared.nodes.Side.TheVariants.{One, Other}
use Rattle.likeness.specs.Pairing.{HavePairs}
use Rattle.proc.specs.declared.process.Process.{Process}
use Rattle.unixmodel.specs.Memory.{Perm}
use Rattle.unixmodel.specs.State.{State}
use Rattle.vm.specs.declared.Marks.{Marks}
use Rattle.vm.specs.Leaf.{rights_from}

-- the marks of a page of the abstract Unix
abbrev pub rights_of : Marks → Perm
rights_of m = rights_from m

-- Both disks were read and nothing else changed, and this holds of the answer; or an access of one of the two devices
-- failed.
abbrev pub Compares : {X : Type 0} → Kernel → Kernel → Kernel → Kernel → (X → Type 0) → Result X Side → Type 0
Compares one one' other other' Says (Ok x) = HasRead one one' × HasRead other other' × Says x
Compares one one' other other' Says (Err One) = IsLost one.tree one'.tree × HasRead other other'
Compares one one' other other' Says (Err Other) = HasRead one one' × IsLost other.tree other'.tree

-- a process that names the open files of another one
abbrev pub with_descriptors_of : Process → Process → Process
with_descriptors_of q p = record p { descriptors = q.descriptors }

-- two states are alike up to the numbers of open files and pipes, except for their files
pub record AreSameButFiles (s t : State) : Type 0 where
  pub pairs : HavePairs s t
  pub console : s.console ≡ t.console
  pub next_pid : s.next_pid ≡ t.next_pid
  pub last : s.last ≡ t.last
  pub frame_limit : s.frame_limit ≡ t.frame_limit
  pub block_limit : s.block_limit ≡ t.block_limit
  pub halted : s.halted ≡ t.halted
