-- The table and the spaces as a state of the abstract Unix.
use Rattle.std.specs.Prelude.{List, Option, [], drop, option_map, unwrap_or, ℕ, ◌∷◌}
use Rattle.proc.specs.declared.process.Process.{Process}
use Rattle.proc.specs.Places.{Places}
use Rattle.spaces.specs.Spaces.{SpaceView, no_pages}
use Rattle.unixmodel.specs.Files.{slot}
use Rattle.unixmodel.specs.Process as unix
use Rattle.unixmodel.specs.State.{State}

-- a process with its space
abbrev pub with_space : SpaceView → Process → unix.Process
with_space h p = record {
  pid = p.pid;
  parent = p.parent;
  registers = p.registers;
  pc = p.pc;
  memory = h.memory;
  size = h.size;
  descriptors = p.descriptors;
  directory = p.directory;
  killed = p.killed;
  mode = p.mode;
}

-- the space of a slot, or no pages where there is none
abbrev pub space_in : List (Option SpaceView) → ℕ → SpaceView
space_in hs i = unwrap_or (slot hs i) no_pages

-- the processes of the slots with their spaces
unfoldable pub joined : List (Option Process) → List (Option SpaceView) → List (Option unix.Process)
joined [] hs = []
joined (o ∷ os) hs = option_map (with_space (space_in hs 0)) o ∷ joined os (drop 1 hs)

-- the state with the table's slots and these spaces
abbrev pub with_table : State → Places → List (Option SpaceView) → State
with_table s t hs = record s { places = joined t.places hs; last = t.last; next_pid = t.next_pid }
