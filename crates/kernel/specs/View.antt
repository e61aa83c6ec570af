-- What a kernel's fields represent.
use Rattle.kernel.specs.declared.kernel.Kernel.TheInside.{Inside}
use Rattle.kernel.specs.Kernel.{Kernel}
use Rattle.kernel.specs.Sound.{IsKernel}
use Rattle.kernel.specs.Watch.{Watches}

abbrev pub kernel_of : {D T : Type 0} → Inside D T → Kernel
kernel_of k = record {
  tree = k.tree;
  table = k.table;
  spaces = k.spaces;
  files = k.files;
  console = k.console;
  ticks = k.ticks;
  halted = k.halted;
}

-- what a kernel keeps, and that its turns look at whoever is ready
pub record Keeps (k : Kernel) : Type 0 where
  pub sound : IsKernel k
  pub watched : Watches k

abbrev pub IsInside : {D T : Type 0} → Inside D T → Type 0
IsInside k = Keeps (kernel_of k)
