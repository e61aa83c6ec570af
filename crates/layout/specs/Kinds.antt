-- The kinds of inodes, as records and nodes have them.
use Rattle.std.specs.Prelude.{if◌then◌else◌, ℕ, ◌==◌}
use Rattle.layout.specs.declared.Kind.{Kind}
use Rattle.layout.specs.declared.Kind.TheVariants.{Device, Directory, File, Free}
use Rattle.unixmodel.specs.Files.{Node}

-- an unknown type is read as that of a device; no image with one is accepted
abbrev pub kind_read : ℕ → ℕ → ℕ → Kind
kind_read number major minor =
    if number == 0 then Free
    else if number == 1 then Directory
    else if number == 2 then File
    else Device major minor

abbrev pub kind_number : Kind → ℕ
kind_number Free = 0
kind_number Directory = 1
kind_number File = 2
kind_number (Device major minor) = 3

abbrev pub kind_major : Kind → ℕ
kind_major (Device major minor) = major
kind_major kind = 0

abbrev pub kind_minor : Kind → ℕ
kind_minor (Device major minor) = minor
kind_minor kind = 0

-- the kind of a node
abbrev pub node_kind : Node → Kind
node_kind (Node.File links bytes) = File
node_kind (Node.Device links major minor) = Device major minor
node_kind (Node.Directory links places) = Directory
