-- The nodes that things make before they have bytes.
use Rattle.std.specs.Prelude.{[]}
use Rattle.unixmodel.specs.Files.{Node}
use Rattle.unixmodel.specs.Files.Node.{Device, Directory, File}
use Rattle.unixmodel.specs.Manifest.{Thing}
use Rattle.unixmodel.specs.Manifest.Thing.{Bytes, Folder, Special}

abbrev pub bare : Thing → Node
bare Folder = Directory 1 []
bare (Bytes bytes) = File 1 []
bare (Special major minor) = Device 1 major minor
