-- All frames of a machine: each is free, of one or more spaces, or of something else, as a pipe.
use Rattle.std.specs.Prelude.{◌≡◌, ◌≢◌, ◌<◌, ◌≤◌, ℕ, ◌+◌, List, [], ◌++◌, length, Option, Some, None, slice_index_or}
use Rattle.std.specs.Prelude.{slice_set}
use Rattle.std.specs.List.{sum_by, flat_map}
use Rattle.ram.specs.Memory.{frame_of}
use Rattle.frames.specs.declared.Frames.{Frames}
use Rattle.frames.specs.Free.{free_count, further_at, IsFreeList}
use Rattle.frames.specs.Holders.{count_of, IsShared, Trades}
use Rattle.vm.specs.declared.Space.{Space}
use Rattle.vm.specs.Dense.{frames_for}
use Rattle.vm.specs.Space.{IsSpace, SharesWith, holds, pages_in, IsUntouched}

-- the frames that a slot holds, which may have a space
abbrev pub held_at : List (List ℕ) → Option Space → List ℕ
held_at m None = []
held_at m (Some x) = holds m x

-- the frames that the slots hold, and these others
abbrev pub all_held : List (List ℕ) → List (Option Space) → List ℕ → List ℕ
all_held m places others = flat_map (held_at m) places ++ others

-- the space of a slot is intact beside the free frames
abbrev pub IsPlace : List (List ℕ) → Option Space → Frames → Type 0
IsPlace m None s = IsFreeList m s
IsPlace m (Some x) s = IsSpace m x s

-- the slots and the others hold all that is not free, and a frame of the others has no other holder
pub record IsMachine (m : List (List ℕ)) (s : Frames) (places : List (Option Space)) (others : List ℕ) : Type 0 where
  pub free : IsFreeList m s
  pub each : (j : ℕ) (x : Space) → slice_index_or places j None ≡ Some x → IsSpace m x s
  pub shared : IsShared m s (all_held m places others)
  pub alone : (f : ℕ) → 0 < count_of f others → further_at s f ≡ 0

-- how many frames a slot holds
abbrev pub frames_used : Option Space → ℕ
frames_used None = 0
frames_used (Some x) = frames_for (pages_in x.size)

-- how many frames the slots and the others hold
abbrev pub frames_of : List (Option Space) → List ℕ → ℕ
frames_of places others = sum_by frames_used places + length others

-- the spaces of all slots except one have the pages, the registers and the frames that they had
abbrev pub OthersUntouched : List (List ℕ) → List (List ℕ) → List (Option Space) → ℕ → Type 0
OthersUntouched m k places i = (j : ℕ) (x : Space) → j ≢ i → slice_index_or places j None ≡ Some x → IsUntouched m k x

-- the spaces of all slots have
abbrev pub AllUntouched : List (List ℕ) → List (List ℕ) → List (Option Space) → Type 0
AllUntouched m k places = (j : ℕ) (x : Space) → slice_index_or places j None ≡ Some x → IsUntouched m k x

-- ---- what holds of a machine and of what becomes of it

-- A machine of which one slot trades what it holds for what another space, or none, holds is a machine.
abbrev pub OnePlaceTrades : Type 0
OnePlaceTrades =
    (m k : List (List ℕ)) (s n : Frames) (places : List (Option Space)) (others : List ℕ) (i : ℕ) (y : Option Space)
    → IsMachine m s places others
    → i < length places → IsPlace k y n → Trades m k s n (held_at m (slice_index_or places i None)) (held_at k y)
    → IsMachine k n (slice_set places i y) others

-- The spaces of the other slots then are as they were.
abbrev pub OnePlaceSpares : Type 0
OnePlaceSpares =
    (m k : List (List ℕ)) (s n : Frames) (places : List (Option Space)) (others new : List ℕ) (i : ℕ)
    → IsMachine m s places others
    → Trades m k s n (held_at m (slice_index_or places i None)) new → OthersUntouched m k places i

-- And the frames of the others have their old bytes.
abbrev pub OnePlaceSparesOthers : Type 0
OnePlaceSparesOthers =
    (m k : List (List ℕ)) (s n : Frames) (places : List (Option Space)) (others new : List ℕ) (i f : ℕ)
    → IsMachine m s places others
    → Trades m k s n (held_at m (slice_index_or places i None)) new → 0 < count_of f others
    → frame_of k f ≡ frame_of m f

-- A machine of which a space shares its frames with a new one, which gets a slot that has none, is a machine.
abbrev pub OnePlaceForks : Type 0
OnePlaceForks =
    (m k : List (List ℕ)) (s n : Frames) (places : List (Option Space)) (others : List ℕ) (i j : ℕ) (x c : Space)
    → IsMachine m s places others
    → slice_index_or places i None ≡ Some x → j < length places → slice_index_or places j None ≡ None → IsSpace k x n
    → IsSpace k c n
    → SharesWith m k x c s n → IsMachine k n (slice_set places j (Some c)) others

-- A machine of which the others trade what they hold, each new frame once, is a machine.
abbrev pub OthersTrade : Type 0
OthersTrade =
    (m k : List (List ℕ)) (s n : Frames) (places : List (Option Space)) (others after old new : List ℕ)
    → IsMachine m s places others → IsFreeList k n
    → ((f : ℕ) → count_of f old ≤ count_of f others) → Trades m k s n old new → ((f : ℕ) → count_of f new ≤ 1)
    → ((f : ℕ) → count_of f after + count_of f old ≡ count_of f others + count_of f new) → IsMachine k n places after

-- The spaces of all slots then are as they were.
abbrev pub OthersSpare : Type 0
OthersSpare =
    (m k : List (List ℕ)) (s n : Frames) (places : List (Option Space)) (others old new : List ℕ)
    → IsMachine m s places others
    → ((f : ℕ) → count_of f old ≤ count_of f others) → Trades m k s n old new → AllUntouched m k places

-- A machine of which a space is among the others, and then gets a slot that has none, is a machine.
abbrev pub NewSpaceSettles : Type 0
NewSpaceSettles =
    (m : List (List ℕ)) (s : Frames) (places : List (Option Space)) (others : List ℕ) (i : ℕ) (y : Space)
    → IsMachine m s places (others ++ holds m y)
    → i < length places → slice_index_or places i None ≡ None → IsSpace m y s
    → IsMachine m s (slice_set places i (Some y)) others

-- The free frames are all frames except those that the spaces, each in full, and the others need.
abbrev pub FreeAreTheRest : Type 0
FreeAreTheRest =
    (m : List (List ℕ)) (s : Frames) (places : List (Option Space)) (others : List ℕ) → IsMachine m s places others
    → free_count m s + frames_of places others ≡ length m
