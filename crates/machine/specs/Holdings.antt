-- What a process of the abstract Unix holds, and an open file of it, as a machine reports them.
use Rattle.std.specs.Prelude.{None, Option, Some, ℕ, ◌==◌, ◌≡◌, false}
use Rattle.files.specs.declared.file.End.TheVariants as end
use Rattle.files.specs.declared.file.OpenFile as table
use Rattle.files.specs.declared.file.Target.{Target}
use Rattle.files.specs.declared.file.Target.TheVariants as target
use Rattle.machine.specs.declared.holdings.Holdings.{Holdings}
use Rattle.machine.specs.declared.holdings.OpenOn.{OpenOn}
use Rattle.machine.specs.declared.holdings.OpenOn.TheVariants as on
use Rattle.machine.specs.declared.holdings.Opened.{Opened}
use Rattle.proc.specs.declared.process.Process as proc
use Rattle.unixmodel.specs.declared.process.Mode.{Mode}
use Rattle.unixmodel.specs.declared.process.Mode.TheVariants.{Ready, Running, Waiting, Zombie}
use Rattle.unixmodel.specs.declared.process.Pending.{Pending}
use Rattle.unixmodel.specs.Files.{Files, Node, slot}
use Rattle.unixmodel.specs.Files.Node.{Device, Directory, File}
use Rattle.unixmodel.specs.OpenFiles as unix
use Rattle.unixmodel.specs.Process.{Process}

-- ---- processes

-- the call that a process waits in
abbrev pub pending_in : Mode → Option Pending
pending_in Running = None
pending_in Ready = None
pending_in (Waiting w) = Some w
pending_in (Zombie status) = None

abbrev pub holdings_of : Process → Holdings
holdings_of p = record { descriptors = p.descriptors; directory = p.directory; pending = pending_in p.mode }

-- the same, from what the table has of it
abbrev pub held_as : proc.Process → Holdings
held_as p = record { descriptors = p.descriptors; directory = p.directory; pending = pending_in p.mode }

-- ---- open files

-- the target in the state: a device has no offset
abbrev pub target_told : OpenOn → unix.Target
target_told (on.File number offset) = unix.Target.OnNode number offset
target_told (on.Console number) = unix.Target.OnNode number 0
target_told (on.Device number) = unix.Target.OnNode number 0
target_told (on.ReadEnd pipe) = unix.Target.OnPipe pipe unix.End.ReadEnd
target_told (on.WriteEnd pipe) = unix.Target.OnPipe pipe unix.End.WriteEnd

abbrev pub file_told : Opened → unix.OpenFile
file_told o = record { target = target_told o.on; readable = o.readable; writable = o.writable }

-- a node is of the kind that is reported
abbrev pub IsFile : Option Node → Type 0
IsFile (Some (File links bytes)) = Unit {0}
IsFile (Some (Directory links places)) = Unit {0}
IsFile _ = ⊥

abbrev pub IsConsole : Option Node → Type 0
IsConsole (Some (Device links major minor)) = major ≡ 1
IsConsole _ = ⊥

abbrev pub IsOtherDevice : Option Node → Type 0
IsOtherDevice (Some (Device links major minor)) = (major == 1) ≡ false
IsOtherDevice _ = ⊥

abbrev pub IsOfKind : Files → OpenOn → Type 0
IsOfKind files (on.File number offset) = IsFile (slot files number)
IsOfKind files (on.Console number) = IsConsole (slot files number)
IsOfKind files (on.Device number) = IsOtherDevice (slot files number)
IsOfKind files (on.ReadEnd pipe) = Unit {0}
IsOfKind files (on.WriteEnd pipe) = Unit {0}

-- what is reported of an open file of the table that `descriptors` descriptors name
abbrev pub on_as : Target → OpenOn
on_as (target.File number offset) = on.File number offset
on_as (target.Console number) = on.Console number
on_as (target.Device number) = on.Device number
on_as (target.Pipe pipe end.Read) = on.ReadEnd pipe
on_as (target.Pipe pipe end.Write) = on.WriteEnd pipe

abbrev pub opened_as : table.OpenFile → ℕ → Opened
opened_as f descriptors =
    record { on = on_as f.target; readable = f.readable; writable = f.writable; descriptors = descriptors }
