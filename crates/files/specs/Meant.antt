-- What the types of the table represent in the abstract Unix's state.
use Rattle.std.specs.Prelude.{Bool, ℕ}
use Rattle.files.specs.declared.file.End.{End}
use Rattle.files.specs.declared.file.End.TheVariants as end
use Rattle.files.specs.declared.file.OpenFile.{OpenFile}
use Rattle.files.specs.declared.file.Target.{Target}
use Rattle.files.specs.declared.file.Target.TheVariants as target
use Rattle.files.specs.declared.table.Slot.{Slot}
use Rattle.unixmodel.specs.OpenFiles as unix

abbrev pub end_of : End → unix.End
end_of end.Read = unix.End.ReadEnd
end_of end.Write = unix.End.WriteEnd

abbrev pub target_of : Target → unix.Target
target_of (target.File number offset) = unix.Target.OnNode number offset
target_of (target.Console number) = unix.Target.OnNode number 0
target_of (target.Device number) = unix.Target.OnNode number 0
target_of (target.Pipe pipe e) = unix.Target.OnPipe pipe (end_of e)

abbrev pub file_of : OpenFile → unix.OpenFile
file_of f = record { target = target_of f.target; readable = f.readable; writable = f.writable }

-- whether an open file is this end of a pipe, or some end of it
abbrev pub is_slot_end : ℕ → unix.End → Slot → Bool
is_slot_end q e s = unix.is_end q e (target_of s.file.target)

abbrev pub is_slot_pipe : ℕ → Slot → Bool
is_slot_pipe q s = unix.is_pipe q (target_of s.file.target)
