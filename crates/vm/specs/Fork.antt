-- A space that is made of another one, whose frames it shares.
use Rattle.std.specs.Prelude.{◌≡◌, ◌<◌, ◌≤◌, ◌+◌, ℕ, suc, List, ◌∷◌, [], ◌++◌}
use Rattle.ram.specs.Memory.{frame_of}
use Rattle.frames.specs.declared.Frames.{Frames}
use Rattle.frames.specs.Free.{free_count}
use Rattle.frames.specs.Holders.{count_of, holders_of, Trades}
use Rattle.vm.specs.declared.Space.{Space}
use Rattle.vm.specs.Dense.{OwnsFrames, frame_at, frames_for, page_at}
use Rattle.vm.specs.Space.{HasFramesOf, IsSpace, SameOtherPages, first_pages, held_by, holds, pages_in, registers_of}
use Rattle.unixmodel.specs.Memory.{shared_memory, shared_page}

-- a space and a new one, which shares its first n pages
pub record IsPart (m : List (List ℕ)) (x c : Space) (n : ℕ) (s : Frames) : Type 0 where
  pub parent : IsSpace m x s
  pub child : OwnsFrames m c.root.0 c.trap.0 n s
  pub room : (v : ℕ) → count_of v (holds m x) + count_of v (held_by m c n) ≤ holders_of m s v
  pub shared : (p : ℕ) → p < n → frame_at m c.root.0 p ≡ frame_at m x.root.0 p

-- one more page
pub record IsMore (m k : List (List ℕ)) (x c : Space) (n : ℕ) (s w : Frames) : Type 0 where
  pub part : IsPart k x c (suc n) w
  pub marked : page_at k x.root.0 n ≡ shared_page (page_at m x.root.0 n)
  pub pages : SameOtherPages m k x n
  pub registers : registers_of k x ≡ registers_of m x
  pub frames : HasFramesOf m k x x
  pub child : first_pages k c (suc n) ≡ first_pages m c n ++ (shared_page (page_at m x.root.0 n) ∷ [])
  pub trap : frame_of k c.trap.0 ≡ frame_of m c.trap.0
  pub trades : Trades m k s w (holds m x ++ held_by m c n) (holds k x ++ held_by k c (suc n))
  pub free : frames_for (suc n) + free_count k w ≡ frames_for n + free_count m s

-- the first n pages are shared
pub record IsSoFar (m k : List (List ℕ)) (x c : Space) (n : ℕ) (s w : Frames) : Type 0 where
  pub part : IsPart k x c n w
  pub marked : (p : ℕ) → p < n → page_at k x.root.0 p ≡ shared_page (page_at m x.root.0 p)
  pub pages : (p : ℕ) → n ≤ p → p < pages_in x.size → page_at k x.root.0 p ≡ page_at m x.root.0 p
  pub registers : registers_of k x ≡ registers_of m x
  pub frames : HasFramesOf m k x x
  pub child : first_pages k c n ≡ shared_memory (first_pages m x n)
  pub trap : frame_of k c.trap.0 ≡ frame_of m c.trap.0
  pub trades : Trades m k s w (holds m x ++ held_by m c 0) (holds k x ++ held_by k c n)
  pub free : frames_for n + free_count k w ≡ frames_for 0 + free_count m s
