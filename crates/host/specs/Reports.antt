-- What the program reports of how a job ended: the status, and the numbers and names of the faults.
use Rattle.std.specs.Prelude.{Bool, Err, List, Ok, Result, codes, false, true, ℕ, ◌≡◌, ◌⊎◌}
use Rattle.calls.specs.declared.halt.Halt.{Halt}
use Rattle.calls.specs.declared.halt.Halt.TheVariants as halt
use Rattle.clap.specs.declared.error.kind.ErrorKind.{ErrorKind}
use Rattle.clap.specs.declared.error.kind.ErrorKind.TheVariants as kind
use Rattle.host.specs.declared.report.End.{End}
use Rattle.host.specs.declared.report.End.TheVariants.{Halted, Running}
use Rattle.elf.specs.declared.ElfFault.{ElfFault}
use Rattle.elf.specs.declared.ElfFault.TheVariants as program
use Rattle.imagecheck.specs.declared.ImageFault.{ImageFault}
use Rattle.imagecheck.specs.declared.ImageFault.TheVariants as image
use Rattle.imagemake.specs.declared.manifest.MakeFault.{MakeFault}
use Rattle.imagemake.specs.declared.manifest.MakeFault.TheVariants as make
use Rattle.machine.specs.declared.fault.BootFault.{BootFault}
use Rattle.machine.specs.declared.fault.BootFault.TheVariants as boot
use Rattle.migrate.specs.declared.fault.MigrateFault.{MigrateFault}
use Rattle.migrate.specs.declared.fault.MigrateFault.TheVariants as migrate
use Rattle.tree.specs.declared.TreeFault.{TreeFault}
use Rattle.tree.specs.declared.TreeFault.TheVariants as tree
use Rattle.unixmodel.specs.declared.assembly.AsmKind.{AsmKind}
use Rattle.unixmodel.specs.declared.assembly.AsmKind.TheVariants as assembly

-- 0 where the script came to its end, or process 1 has ended
abbrev pub status_of : End → ℕ
status_of Running = 0
status_of (Halted (halt.InitEnded status)) = 0
status_of (Halted halt.Device) = 1
status_of (Halted halt.Console) = 1
status_of (Halted halt.Halted) = 1

-- 0 where standard output takes a text, else 1
abbrev pub IsPrintStatus : ℕ → Type 0
IsPrintStatus status = (status ≡ 0) ⊎ (status ≡ 1)

-- 2 for words that are no job, 1 where memory is wanting; help is printed
abbrev pub IsRefusalStatus : ErrorKind → ℕ → Type 0
IsRefusalStatus kind.OutOfMemory status = status ≡ 1
IsRefusalStatus kind.DisplayHelp status = IsPrintStatus status
IsRefusalStatus kind.DisplayVersion status = IsPrintStatus status
IsRefusalStatus _ status = status ≡ 2

-- how a run ended; bytes of the console that were not written make it one whose console failed
abbrev pub end_of : Result (Unit {0}) Halt → Bool → End
end_of ended false = Halted halt.Console
end_of (Ok u) true = Running
end_of (Err h) true = Halted h

abbrev pub image_number : ImageFault → ℕ
image_number image.Length = 1
image_number image.Magic = 2
image_number image.Numbers = 3
image_number image.NodeType = 4
image_number image.Address = 5
image_number image.SharedBlock = 6
image_number image.Bitmap = 7
image_number image.Size = 8
image_number image.Entry = 9
image_number image.Links = 10
image_number image.Unreached = 11
image_number image.Device = 12
image_number image.NoMemory = 13

abbrev pub image_name : ImageFault → List ℕ
image_name image.Length = codes "Length"
image_name image.Magic = codes "Magic"
image_name image.Numbers = codes "Numbers"
image_name image.NodeType = codes "NodeType"
image_name image.Address = codes "Address"
image_name image.SharedBlock = codes "SharedBlock"
image_name image.Bitmap = codes "Bitmap"
image_name image.Size = codes "Size"
image_name image.Entry = codes "Entry"
image_name image.Links = codes "Links"
image_name image.Unreached = codes "Unreached"
image_name image.Device = codes "Device"
image_name image.NoMemory = codes "NoMemory"

abbrev pub make_number : MakeFault → ℕ
make_number make.Name = 1
make_number make.Twice = 2
make_number make.Blocks = 3
make_number make.Inodes = 4
make_number make.Parent = 5
make_number make.Numbers = 6
make_number make.NoMemory = 7

abbrev pub make_name : MakeFault → List ℕ
make_name make.Name = codes "Name"
make_name make.Twice = codes "Twice"
make_name make.Blocks = codes "Blocks"
make_name make.Inodes = codes "Inodes"
make_name make.Parent = codes "Parent"
make_name make.Numbers = codes "Numbers"
make_name make.NoMemory = codes "NoMemory"

-- an image that is refused is reported by its own fault
abbrev pub boot_number : BootFault → ℕ
boot_number (boot.Image fault) = image_number fault
boot_number boot.FrameCount = 2
boot_number boot.Device = 3
boot_number boot.NoMemory = 4
boot_number boot.NoInit = 5

abbrev pub boot_name : BootFault → List ℕ
boot_name (boot.Image fault) = image_name fault
boot_name boot.FrameCount = codes "FrameCount"
boot_name boot.Device = codes "Device"
boot_name boot.NoMemory = codes "NoMemory"
boot_name boot.NoInit = codes "NoInit"

-- an old image that is refused is reported by its own fault
abbrev pub migrate_number : MigrateFault → ℕ
migrate_number (migrate.Image fault) = image_number fault
migrate_number migrate.Blocks = 2
migrate_number migrate.NoMemory = 3

abbrev pub migrate_name : MigrateFault → List ℕ
migrate_name (migrate.Image fault) = image_name fault
migrate_name migrate.Blocks = codes "Blocks"
migrate_name migrate.NoMemory = codes "NoMemory"

abbrev pub tree_number : TreeFault → ℕ
tree_number tree.NotFound = 1
tree_number tree.NotDir = 2
tree_number tree.Exists = 3
tree_number tree.IsDir = 4
tree_number tree.NotEmpty = 5
tree_number tree.DotName = 6
tree_number tree.DeadDir = 7
tree_number tree.Links = 8
tree_number tree.Blocks = 9
tree_number tree.Inodes = 10
tree_number tree.Full = 11
tree_number tree.Device = 12

abbrev pub tree_name : TreeFault → List ℕ
tree_name tree.NotFound = codes "NotFound"
tree_name tree.NotDir = codes "NotDir"
tree_name tree.Exists = codes "Exists"
tree_name tree.IsDir = codes "IsDir"
tree_name tree.NotEmpty = codes "NotEmpty"
tree_name tree.DotName = codes "DotName"
tree_name tree.DeadDir = codes "DeadDir"
tree_name tree.Links = codes "Links"
tree_name tree.Blocks = codes "Blocks"
tree_name tree.Inodes = codes "Inodes"
tree_name tree.Full = codes "Full"
tree_name tree.Device = codes "Device"

abbrev pub assembly_number : AsmKind → ℕ
assembly_number assembly.Syntax = 1
assembly_number assembly.Mnemonic = 2
assembly_number assembly.Operand = 3
assembly_number assembly.Range = 4
assembly_number assembly.Label = 5
assembly_number assembly.Twice = 6
assembly_number assembly.Align = 7
assembly_number assembly.NoMemory = 8

abbrev pub assembly_name : AsmKind → List ℕ
assembly_name assembly.Syntax = codes "Syntax"
assembly_name assembly.Mnemonic = codes "Mnemonic"
assembly_name assembly.Operand = codes "Operand"
assembly_name assembly.Range = codes "Range"
assembly_name assembly.Label = codes "Label"
assembly_name assembly.Twice = codes "Twice"
assembly_name assembly.Align = codes "Align"
assembly_name assembly.NoMemory = codes "NoMemory"

abbrev pub program_number : ElfFault → ℕ
program_number program.Magic = 1
program_number program.Sizes = 2
program_number program.Align = 3
program_number program.Overlap = 4
program_number program.Short = 5

abbrev pub program_name : ElfFault → List ℕ
program_name program.Magic = codes "Magic"
program_name program.Sizes = codes "Sizes"
program_name program.Align = codes "Align"
program_name program.Overlap = codes "Overlap"
program_name program.Short = codes "Short"
