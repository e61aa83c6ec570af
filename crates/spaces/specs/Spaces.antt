-- The address spaces of one memory and the hart, as plain values.
use Rattle.std.specs.Prelude.{Bool, Err, List, None, Ok, Option, Result, Some, [], drop, is_some, length, replicate}
use Rattle.std.specs.Prelude.{slice_set, sum_by, take, unwrap_or, ℕ, ◌++◌, ◌+◌, ◌-◌, ◌<◌, ◌≡◌, ◌≤◌}
use Rattle.unixmodel.specs.Counts.{page_frames}
use Rattle.unixmodel.specs.Cycle.{cycle}
use Rattle.unixmodel.specs.Files.{slot, taken}
use Rattle.unixmodel.specs.Meaning.{Computed}
use Rattle.unixmodel.specs.Memory.{Perm, Memory, reach, shared_memory, write_bytes, zero_page}
use Rattle.unixmodel.specs.declared.trap.Access.TheVariants.{Load}
use Rattle.unixmodel.specs.declared.trap.Trap.{Trap}
use Rattle.unixmodel.specs.Next.{memory_after}
use Rattle.unixmodel.specs.OpenFiles.{pipe_room}
use Rattle.unixmodel.specs.Numbers.{ceil_div}

-- what a space shows: the memory of a program, and its size in bytes
pub record SpaceView : Type 0 where
  pub memory : Memory
  pub size : ℕ

pub record Spaces : Type 0 where
  -- 64 of them, each free or with a space
  pub places : List (Option SpaceView)
  -- the slot whose process the hart runs
  pub active : Option ℕ
  -- x0 to x31 of the hart
  pub registers : List ℕ
  pub pc : ℕ
  -- how many frames the memory has
  pub frames : ℕ
  -- 100 of them, each free or with the bytes of a pipe, the oldest first
  pub pipes : List (Option (List ℕ))

-- no space and no pipe over that many frames
abbrev pub no_spaces : ℕ → Spaces
no_spaces frames = record {
  places = replicate 64 None;
  active = None;
  registers = replicate 32 0;
  pc = 0;
  frames = frames;
  pipes = replicate 100 None;
}

-- ---- slots

abbrev pub has_space : Spaces → ℕ → Bool
has_space s at = is_some (slot s.places at)

-- a space without pages
abbrev pub no_pages : SpaceView
no_pages = record { memory = []; size = 0 }

-- what the space of a slot shows, or no pages where the slot is free
abbrev pub view_at : Spaces → ℕ → SpaceView
view_at s at = unwrap_or (slot s.places at) no_pages

-- a slot has another space, or none
abbrev pub with_place : Spaces → ℕ → Option SpaceView → Spaces
with_place s at place = record s { places = slice_set s.places at place }

abbrev pub with_view : Spaces → ℕ → SpaceView → Spaces
with_view s at held = with_place s at (Some held)

-- ---- other memories

-- n more bytes: new pages are 0 and have these marks
abbrev pub grown : SpaceView → ℕ → Perm → SpaceView
grown h bytes marks = record {
  memory = h.memory ++ replicate (ceil_div (h.size + bytes) 4096 - ceil_div h.size 4096) (zero_page marks);
  size = h.size + bytes;
}

-- the space of a slot grows by that many bytes
abbrev pub grown_at : Spaces → ℕ → ℕ → Perm → Spaces
grown_at s at bytes marks = with_view s at (grown (view_at s at) bytes marks)

-- n bytes fewer
abbrev pub shrunk : SpaceView → ℕ → SpaceView
shrunk h bytes = record { memory = take (ceil_div (h.size - bytes) 4096) h.memory; size = h.size - bytes }

-- the same pages, as a fork leaves them
abbrev pub forked : SpaceView → SpaceView
forked h = record h { memory = shared_memory h.memory }

-- slot `to` has the pages of slot `from`, by a fork
abbrev pub copied : Spaces → ℕ → ℕ → Spaces
copied s from to = with_view (with_view s from (forked (view_at s from))) to (forked (view_at s from))

-- these bytes are written from an address on
abbrev pub written : SpaceView → ℕ → List ℕ → SpaceView
written h address bytes = record h { memory = write_bytes h.memory address bytes }

-- what the instruction at the pc means to the hart and the program of a slot
abbrev pub cycle_at : Spaces → ℕ → Result Computed Trap
cycle_at s at = cycle s.registers s.pc (view_at s at).memory

-- the hart and the space of a slot after an instruction
abbrev pub computed : Spaces → ℕ → Computed → Spaces
computed s at d = with_view
    (record s { registers = d.regs; pc = d.pc })
    at
    (record (view_at s at) { memory = memory_after (view_at s at).memory d.change })

-- ---- frames

-- the frames that a slot takes: those of the pages, the root, two tables for the trap frame, and that frame
abbrev pub frames_in : Option SpaceView → ℕ
frames_in None = 0
frames_in (Some h) = 4 + page_frames (length h.memory)

-- the frames that all slots take, and a frame for each pipe
abbrev pub taken_frames : Spaces → ℕ
taken_frames s = sum_by frames_in s.places + length (taken s.pipes)

-- the frames suffice for these spaces and pipes, which are there now
abbrev pub Fits : Spaces → Spaces → Spaces → Type 0
Fits old new wanted = (taken_frames wanted ≤ old.frames) × (new ≡ wanted)

-- they don't suffice, and all is as it was
abbrev pub Lacks : Spaces → Spaces → Spaces → Type 0
Lacks old new wanted = (old.frames < taken_frames wanted) × (new ≡ old)

-- ---- pipes

abbrev pub has_pipe : Spaces → ℕ → Bool
has_pipe s q = is_some (slot s.pipes q)

-- the bytes of a pipe, or none where its slot is free
abbrev pub bytes_in : Spaces → ℕ → List ℕ
bytes_in s q = unwrap_or (slot s.pipes q) []

-- a slot for pipes has another pipe, or none
abbrev pub with_pipe : Spaces → ℕ → Option (List ℕ) → Spaces
with_pipe s q pipe = record s { pipes = slice_set s.pipes q pipe }

-- what fits of bytes after those that a pipe holds, and what it holds then
abbrev pub fitting : List ℕ → List ℕ → List ℕ
fitting held new = take (pipe_room - length held) new

abbrev pub filled : List ℕ → List ℕ → List ℕ
filled held new = held ++ fitting held new

-- bytes are appended to those of a pipe, as many as fit
abbrev pub put_behind : Spaces → ℕ → List ℕ → Spaces
put_behind s q bytes = with_pipe s q (Some (filled (bytes_in s q) bytes))

-- the bytes from an address on that a program may read, at most `count`
abbrev pub read_at : SpaceView → ℕ → ℕ → List ℕ
read_at h address count = take count (reach Load h.memory address)

-- bytes of a pipe are moved to an address of a slot, at most `count`
abbrev pub taken_to : Spaces → ℕ → ℕ → ℕ → ℕ → Spaces
taken_to s q at address count = with_pipe
    (with_view s at (written (view_at s at) address (take count (bytes_in s q))))
    q
    (Some (drop count (bytes_in s q)))

-- ---- a step

-- the space of a slot is advanced by the instruction at the pc
abbrev pub Executes : Spaces → Spaces → ℕ → Type 0
Executes old new at = (d : Computed) × (cycle_at old at ≡ Ok d) × (new ≡ computed old at d)

-- that instruction traps, and changes nothing
abbrev pub Traps : Spaces → Spaces → ℕ → Trap → Type 0
Traps old new at trap = (cycle_at old at ≡ Err trap) × (new ≡ old)
