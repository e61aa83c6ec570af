-- Why nothing is made of an image or of a text, in numbers. 4: the host has no memory.
use Rattle.std.specs.Prelude.{ℕ}
use Rattle.imagebytes.specs.declared.making.MakingFault.{MakingFault}
use Rattle.imagebytes.specs.declared.making.MakingFault.TheVariants as making
use Rattle.imagecheck.specs.declared.ImageFault.{ImageFault}
use Rattle.imagecheck.specs.declared.ImageFault.TheVariants as image
use Rattle.imagemake.specs.declared.manifest.MakeFault.{MakeFault}
use Rattle.imagemake.specs.declared.manifest.MakeFault.TheVariants as make
use Rattle.image_files.specs.declared.directory.ListingFault.{ListingFault}
use Rattle.image_files.specs.declared.directory.ListingFault.TheVariants as listing
use Rattle.image_files.specs.declared.opening_fault.OpeningFault.{OpeningFault}
use Rattle.image_files.specs.declared.opening_fault.OpeningFault.TheVariants as opening
use Rattle.migrate.specs.declared.fault.MigrateFault.{MigrateFault}
use Rattle.migrate.specs.declared.fault.MigrateFault.TheVariants as migrate
use Rattle.std.specs.declared.alloc.AllocError.{AllocError}
use Rattle.tree.specs.declared.TreeFault.{TreeFault}
use Rattle.tree.specs.declared.TreeFault.TheVariants as tree
use Rattle.unixmodel.specs.declared.assembly.AsmKind.{AsmKind}
use Rattle.unixmodel.specs.declared.assembly.AsmKind.TheVariants as asm

abbrev pub image_number : ImageFault → ℕ
image_number image.Length = 101
image_number image.Magic = 102
image_number image.Numbers = 103
image_number image.NodeType = 104
image_number image.Address = 105
image_number image.SharedBlock = 106
image_number image.Bitmap = 107
image_number image.Size = 108
image_number image.Entry = 109
image_number image.Links = 110
image_number image.Unreached = 111
image_number image.Device = 4
image_number image.NoMemory = 4

-- a disk in memory fails for want of memory alone
abbrev pub tree_number : TreeFault → ℕ
tree_number tree.NotFound = 201
tree_number tree.NotDir = 202
tree_number tree.Exists = 203
tree_number tree.IsDir = 204
tree_number tree.NotEmpty = 205
tree_number tree.DotName = 206
tree_number tree.DeadDir = 207
tree_number tree.Links = 208
tree_number tree.Blocks = 209
tree_number tree.Inodes = 210
tree_number tree.Full = 211
tree_number tree.Device = 4

abbrev pub memory_number : AllocError → ℕ
memory_number fault = 4

abbrev pub make_number : MakeFault → ℕ
make_number make.Name = 301
make_number make.Twice = 302
make_number make.Blocks = 303
make_number make.Inodes = 304
make_number make.Parent = 305
make_number make.Numbers = 306
make_number make.NoMemory = 4

abbrev pub making_number : MakingFault → ℕ
making_number making.Entry = 307
making_number (making.Make fault) = make_number fault

abbrev pub opening_number : OpeningFault → ℕ
opening_number (opening.Image fault) = image_number fault
opening_number (opening.Tree fault) = tree_number fault
opening_number opening.NoMemory = 4

abbrev pub listing_number : ListingFault → ℕ
listing_number (listing.Image fault) = image_number fault
listing_number (listing.Tree fault) = tree_number fault
listing_number listing.Output = 4
listing_number listing.NoMemory = 4

abbrev pub migrate_number : MigrateFault → ℕ
migrate_number (migrate.Image fault) = image_number fault
migrate_number migrate.Blocks = 401
migrate_number migrate.NoMemory = 4

abbrev pub asm_number : AsmKind → ℕ
asm_number asm.Syntax = 501
asm_number asm.Mnemonic = 502
asm_number asm.Operand = 503
asm_number asm.Range = 504
asm_number asm.Label = 505
asm_number asm.Twice = 506
asm_number asm.Align = 507
asm_number asm.NoMemory = 4
