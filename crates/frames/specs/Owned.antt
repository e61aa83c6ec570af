-- The words on free frames and holders, where a memory and who holds its frames are one value.
use Rattle.std.specs.Prelude.{List, ℕ, ◌≡◌}
use Rattle.frames.specs.declared.memory.Memory.{Memory}
use Rattle.frames.specs.Free as free
use Rattle.frames.specs.Holders as holders

-- the free frames, the one that is taken next first
abbrev pub free_of : Memory → List ℕ
free_of m = free.free_of m.ram m.frames

-- how many frames could be taken still
abbrev pub free_count : Memory → ℕ
free_count m = free.free_count m.ram m.frames

-- how many hold each frame beyond its first holder, and the sum of that
abbrev pub extra_of : Memory → List ℕ × ℕ
extra_of m = free.extra_of m.frames

-- how many hold a frame beyond its first holder
abbrev pub further_at : Memory → ℕ → ℕ
further_at m f = free.further_at m.frames f

-- how many holders a frame has
abbrev pub holders_of : Memory → ℕ → ℕ
holders_of m f = holders.holders_of m.ram m.frames f

-- each frame is free or held, as the list of free frames and the counts of holders say
abbrev pub IsFreeList : Memory → Type 0
IsFreeList m = free.IsFreeList m.ram m.frames

-- these frames are all that is held, each as often as it has holders
abbrev pub IsShared : Memory → List ℕ → Type 0
IsShared m all = holders.IsShared m.ram m.frames all

-- a holder that held these frames holds those now
abbrev pub Trades : Memory → Memory → List ℕ → List ℕ → Type 0
Trades m k old new = holders.Trades m.ram k.ram m.frames k.frames old new

-- the same bytes, held by as many
pub record IsDuplicate (old new : Memory) : Type 0 where
  pub ram : new.ram ≡ old.ram
  pub frames : free.IsDuplicate old.frames new.frames
