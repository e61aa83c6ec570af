-- What the descriptors of processes name, and how open files gain and lose them.
use Rattle.std.specs.Prelude.{List, None, Option, Some, [], if◌then◌else◌, sum_by, ℕ, ◌∷◌, ◌≡◌}
use Rattle.files.specs.Counts.{names}
use Rattle.files.specs.declared.file.Target.{Target}
use Rattle.files.specs.declared.file.Target.TheVariants as target
use Rattle.files.specs.Places.{Counted, closed, count_at, has_pipe, last_target, opens_of, shared}
use Rattle.proc.specs.declared.process.Process.{Process}
use Rattle.spaces.specs.Spaces.{Spaces}
use Rattle.unixmodel.specs.Files.{clear}
use Rattle.unixmodel.specs.OpenFiles.{OpenFile}
use Rattle.unixmodel.specs.Reap.{kept}

abbrev pub descriptors_in : Option Process → List (Option ℕ)
descriptors_in None = []
descriptors_in (Some p) = p.descriptors

-- ---- counts

-- how many descriptors of a slot's process name open file n
abbrev pub names_in : ℕ → Option Process → ℕ
names_in n o = names n (descriptors_in o)

-- how many descriptors of all processes do
abbrev pub named_by : List (Option Process) → ℕ → ℕ
named_by places n = sum_by (names_in n) places

-- the open files count the descriptors of these processes
abbrev pub IsCounted : List (Option Counted) → List (Option Process) → Type 0
IsCounted files places = (n : ℕ) → count_at files n ≡ named_by places n

-- ---- changes

-- one descriptor more names what a descriptor names
abbrev pub shared_in : List (Option Counted) → Option ℕ → List (Option Counted)
shared_in files None = files
shared_in files (Some n) = shared files n

-- each descriptor is there twice
abbrev pub all_shared : List (Option Counted) → List (Option ℕ) → List (Option Counted)
all_shared files [] = files
all_shared files (d ∷ ds) = all_shared (shared_in files d) ds

-- a descriptor is closed
abbrev pub closed_in : List (Option Counted) → Option ℕ → List (Option Counted)
closed_in files None = files
closed_in files (Some n) = closed files n

-- each descriptor is closed
abbrev pub all_closed : List (Option Counted) → List (Option ℕ) → List (Option Counted)
all_closed files [] = files
all_closed files (d ∷ ds) = all_closed (closed_in files d) ds

-- the pipes of which some open file is an end
abbrev pub standing : List (Option (List ℕ)) → List (Option OpenFile) → List (Option (List ℕ))
standing pipes opens = kept (λ q pipe. has_pipe opens q) 0 pipes

-- the pipes where an end was closed for the last time: with the last end of all the pipe goes
abbrev pub after_close : List (Option (List ℕ)) → List (Option OpenFile) → Option Target → List (Option (List ℕ))
after_close pipes opens None = pipes
after_close pipes opens (Some (target.File number offset)) = pipes
after_close pipes opens (Some (target.Console number)) = pipes
after_close pipes opens (Some (target.Device number)) = pipes
after_close pipes opens (Some (target.Pipe q end)) = if has_pipe opens q then pipes else clear pipes q

-- the spaces where one descriptor of open file n is closed
abbrev pub without_end : Spaces → List (Option Counted) → ℕ → Spaces
without_end s files n = record s { pipes = after_close s.pipes (opens_of (closed files n)) (last_target files n) }
