-- The free frames of a memory, as a list that runs through the frames themselves.
use Rattle.std.specs.Prelude.{◌≡◌, ◌<◌, ◌≤◌, ◌-◌, ℕ, zero, suc, Bool, true, false, nat_eq, List, [], ◌∷◌, length, map}
use Rattle.std.specs.Prelude.{slice_index_or}
use Rattle.std.specs.List.{list_any, IsDistinct, sum_by}
use Rattle.ram.specs.Memory.{frame_of, word_of}
use Rattle.frames.specs.declared.Frames.{Frames}

-- whether a frame is among these
abbrev pub among : ℕ → List ℕ → Bool
among f fs = list_any (nat_eq f) fs

-- the first n frames of the list that begins at a frame: the first 4 bytes of each name the next
unfoldable pub chain : List (List ℕ) → ℕ → ℕ → List ℕ
chain m zero first = []
chain m (suc n) first = first ∷ chain m n (word_of m first 0 4)

-- the free frames, the one that is taken next first
unfoldable pub free_of : List (List ℕ) → Frames → List ℕ
free_of m s = chain m s.count s.first.0

-- how many hold a frame, as the table has it
abbrev pub counted : Frames → ℕ → ℕ
counted s f = slice_index_or s.holders.items f 0

-- a count without the first
abbrev pub less_one : ℕ → ℕ
less_one n = n - 1

-- how many hold each frame beyond its first holder, and the sum of that
unfoldable pub extra_of : Frames → List ℕ × ℕ
extra_of s = (map less_one s.holders.items, s.shared)

-- how many hold a frame beyond its first holder
abbrev pub further_at : Frames → ℕ → ℕ
further_at s f = slice_index_or (extra_of s).0 f 0

-- how many frames could be taken still, if each holder had frames of its own
abbrev pub free_count : List (List ℕ) → Frames → ℕ
free_count m s = length (free_of m s) - (extra_of s).1

-- Every free frame is one of the memory, and none occurs twice; the frames without holders are the free ones.
-- There are at least as many free frames as would be needed if each further holder got a frame of its own.
pub record IsFreeList (m : List (List ℕ)) (s : Frames) : Type 0 where
  pub inside : (f : ℕ) → among f (free_of m s) ≡ true → f < length m
  pub distinct : IsDistinct nat_eq (free_of m s)
  pub size : length s.holders.items ≡ length m
  pub none : (f : ℕ) → among f (free_of m s) ≡ true → counted s f ≡ 0
  pub some : (f : ℕ) → f < length m → among f (free_of m s) ≡ false → 0 < counted s f
  pub sum : s.shared ≡ sum_by less_one s.holders.items
  pub room : s.shared ≤ length (free_of m s)

-- the memory is the same except for the bytes of these frames
pub record SameBut (fs : List ℕ) (old new : List (List ℕ)) : Type 0 where
  pub count : length new ≡ length old
  pub others : (g : ℕ) → among g fs ≡ false → frame_of new g ≡ frame_of old g

-- a frame is free now, the next that is taken
abbrev pub Frees : List (List ℕ) → List (List ℕ) → Frames → Frames → ℕ → Type 0
Frees m k s n f = (free_of k n ≡ f ∷ free_of m s) × (extra_of n ≡ extra_of s)

-- no frame came free, and the memory is as it was
abbrev pub FreesNone : List (List ℕ) → List (List ℕ) → Frames → Frames → Type 0
FreesNone m k s n = (free_of k n ≡ free_of m s) × (k ≡ m)

-- the same list of free frames and the same counts, whatever room the counts have
pub record IsDuplicate (old new : Frames) : Type 0 where
  pub first : new.first ≡ old.first
  pub count : new.count ≡ old.count
  pub holders : new.holders.items ≡ old.holders.items
  pub shared : new.shared ≡ old.shared
