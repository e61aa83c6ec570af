-- What the kernel's steps do to the running process, and to others.
use Rattle.std.specs.Prelude.{None, Ok, Option, Some, false, option_map, slice_set, ℕ, ◌<◌, ◌≡◌, ◌≤◌}
use Rattle.kernel.specs.Descriptors.{all_shared}
use Rattle.kernel.specs.Holding.{IsFolder, all_dropped, listed}
use Rattle.kernel.specs.Kernel.{Kernel, counting, on_hart, waking}
use Rattle.proc.specs.declared.process.Process.{Process}
use Rattle.proc.specs.declared.table.Seat.{Seat}
use Rattle.proc.specs.Places.{changed, seat_of, seated, with_directory, without}
use Rattle.spaces.specs.Spaces.{copied, taken_frames, with_place}
use Rattle.tree.specs.Holding.{with_hold}
use Rattle.unixmodel.specs.declared.process.Mode.TheVariants.{Ready}
use Rattle.unixmodel.specs.Files.{slot}

-- ---- where it works

-- the running process, in slot i, may work in directory n; no access of the device has failed
pub record MayWorkIn (k : Kernel) (i n : ℕ) : Type 0 where
  pub running : k.spaces.active ≡ Some i
  pub folder : IsFolder (slot k.tree.files n)
  pub up : k.tree.failed ≡ false

-- the directory of the process in slot i
abbrev pub home_at : Kernel → ℕ → Option ℕ
home_at k i = option_map (λ (p : Process). p.directory) (slot k.table.places i)

-- process i works in directory n; the one that it leaves goes where it has no links and nobody holds it any more
abbrev pub working_in : Kernel → ℕ → ℕ → Kernel
working_in k i n = record k {
  tree = all_dropped (record k.tree { holds = with_hold k.tree.holds n }) (listed (home_at k i));
  table = changed k.table i (with_directory n);
}

-- the same, except for the count of the device's failures
abbrev pub WorksIn : Kernel → Kernel → ℕ → ℕ → Type 0
WorksIn old new i n = new ≡ counting (working_in old i n) new.tree.failures

-- ---- fork

-- the running process, in slot i, may have a child; no access of the device has failed
pub record MayFork (k : Kernel) (i : ℕ) : Type 0 where
  pub running : k.spaces.active ≡ Some i
  pub up : k.tree.failed ≡ false

abbrev pub child_of : Process → Process
child_of p = record p { parent = p.pid; registers = slice_set p.registers 10 0; killed = false; mode = Ready }

-- process p, in slot i, has a child there, with the same pages, descriptors and directory
abbrev pub forked_as : Kernel → ℕ → Seat → Process → Kernel
forked_as k i seat p = record k {
  tree = record k.tree { holds = with_hold k.tree.holds p.directory };
  table = seated k.table (child_of p) seat;
  spaces = copied k.spaces i seat.place;
  files = all_shared k.files p.descriptors;
}

-- the process in slot i has a child in the next seat, for which the frames suffice, and it is awake
pub record HasForked (old new : Kernel) (i : ℕ) (seat : Seat) : Type 0 where
  pub next : seat_of old.table ≡ Ok seat
  pub fits : taken_frames (copied old.spaces i seat.place) ≤ old.spaces.frames
  pub same : (p : Process) → slot old.table.places i ≡ Some p
      → new ≡ waking (forked_as old i seat (on_hart old.spaces p)) new.table.awake

-- no seat is left, or the frames don't suffice
abbrev pub LacksRoom : Kernel → ℕ → Type 0
LacksRoom k i =
    (seat : Seat) → seat_of k.table ≡ Ok seat → k.spaces.frames < taken_frames (copied k.spaces i seat.place)

-- the pid of the child; without room nothing changes
abbrev pub Forks : Kernel → Kernel → ℕ → Option ℕ → Type 0
Forks old new i (Some pid) = (seat : Seat) × (pid ≡ seat.pid) × HasForked old new i seat
Forks old new i None = LacksRoom old i × (new ≡ old)

-- ---- wait

-- the zombie in a slot, if there is one, is collected, and the slot is free
abbrev pub collected : Kernel → Option ℕ → Kernel
collected k None = k
collected k (Some j) = record k { table = without k.table (Some j); spaces = with_place k.spaces j None }
