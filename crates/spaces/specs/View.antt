-- What the fields represent.
use Rattle.std.specs.Prelude.{List, None, Option, Some, [], length, map, option_and_then, ℕ, ◌/◌, ◌<◌, ◌^◌, ◌∷◌, ◌≡◌}
use Rattle.std.specs.List.{flat_map}
use Rattle.hart.specs.Recalled.{Knows}
use Rattle.pipe.specs.Pipe.{Pipe, bytes_of}
use Rattle.spaces.specs.declared.Spaces.TheInside.{Inside}
use Rattle.spaces.specs.Ends.{IsOpen}
use Rattle.spaces.specs.Spaces.{SpaceView, Spaces}
use Rattle.sv39.specs.Mapping.{IsCoherent, memory_of}
use Rattle.unixmodel.specs.Files.{slot}
use Rattle.unixmodel.specs.Memory.{Memory}
use Rattle.unixmodel.specs.Translation as translation
use Rattle.unixmodel.specs.Shown.{byte_at, page_byte}
use Rattle.unixmodel.specs.Translation.{HoldsInside, walk}
use Rattle.unixmodel.specs.declared.trap.Access.{Access}
use Rattle.unixmodel.specs.declared.trap.Cause.TheVariants.{StorePageFault}
use Rattle.unixmodel.specs.declared.trap.Trap.{Trap}
use Rattle.vm.specs.declared.Space.{Space}
use Rattle.vm.specs.Shares.{IsMachine}
use Rattle.vm.specs.Space.{entries_of, pages_in, pages_of}

abbrev pub view_with : Memory → ℕ → SpaceView
view_with memory size = record { memory = memory; size = size }

-- what a slot shows over a memory
abbrev pub shown : List (List ℕ) → Option Space → Option SpaceView
shown m None = None
shown m (Some x) = Some (view_with (pages_of m x) x.size)

-- what a slot for pipes shows
abbrev pub pipe_shown : List (List ℕ) → Option Pipe → Option (List ℕ)
pipe_shown m None = None
pipe_shown m (Some p) = Some (bytes_of m p)

-- the frames that pipes hold
abbrev pub frames_at : Option Pipe → List ℕ
frames_at None = []
frames_at (Some p) = p.frame ∷ []

abbrev pub pipe_frames : List (Option Pipe) → List ℕ
pipe_frames pipes = flat_map frames_at pipes

abbrev pub spaces_of : {T : Type 0} → Inside T → Spaces
spaces_of k = record {
  places = map (shown k.memory.ram) k.places.items;
  active = k.active;
  registers = k.hart.registers;
  pc = k.hart.pc;
  frames = length k.memory.ram;
  pipes = map (pipe_shown k.memory.ram) k.pipes.items;
}

-- addresses from a root go through the space of a slot, and what is held is what the tables of that space show
pub record Runs (held : translation.Held) (m : List (List ℕ)) (root : ℕ) (places : List (Option Space)) (at : ℕ) : Type
    0 where
  pub space : Space
  pub stands : slot places at ≡ Some space
  pub same : root ≡ space.root.0
  pub coherent : IsCoherent held space.root.0 (entries_of m space)

abbrev pub IsLoaded : translation.Held → List (List ℕ) → ℕ → List (Option Space) → Option ℕ → Type 0
IsLoaded held m root places None = Unit {0}
IsLoaded held m root places (Some at) = Runs held m root places at

-- the active slot, if there is one, is loaded
abbrev pub IsActive : Option ℕ → Option ℕ → Type 0
IsActive None loaded = Unit {0}
IsActive (Some at) loaded = loaded ≡ Some at

-- The spaces, the pipes and the free list share out all frames, and the hart has the tables of the loaded slot.
pub record IsSpaces {T : Type 0} (held : T → translation.Held) (k : Inside T) : Type 0 where
  pub machine : IsMachine k.memory.ram k.memory.frames k.places.items (pipe_frames k.pipes.items)
  pub all : length k.places.items ≡ 64
  pub loaded : IsLoaded (held k.translator) k.memory.ram k.hart.root.0 k.places.items k.loaded
  pub active : IsActive k.active k.loaded
  pub inside : HoldsInside (held k.translator) k.memory.ram
  pub pipes : length k.pipes.items ≡ 100
  pub both : (q : ℕ) (p : Pipe) → slot k.pipes.items q ≡ Some p → IsOpen p

-- and what is known of decoded words holds of the memory
pub record IsWhole {T : Type 0} (held : T → translation.Held) (k : Inside T) : Type 0 where
  pub spaces : IsSpaces held k
  pub known : Knows k.decoded k.memory.ram

-- walks from this root reach the bytes that the tables of a space show
abbrev pub WalksReach : List (List ℕ) → ℕ → Space → Type 0
WalksReach m root x =
    (va : ℕ) (access : Access) → va < 2 ^ 64
    → option_and_then (byte_at m) (walk m root va access) ≡ page_byte (memory_of m (entries_of m x)) va access

-- a store trapped in this page of a space
abbrev pub IsStoreIn : Trap → Space → ℕ → Type 0
IsStoreIn trap x page = (trap.cause ≡ StorePageFault) × (page ≡ trap.address / 4096) × (page < pages_in x.size)
