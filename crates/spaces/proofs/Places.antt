-- What the fields show at a slot, and how many frames the slots take.
use Rattle.spaces.proofs.Common.{Ram, Held, Frames, count_of-first, Trades, count_of, Pipe, frame_of, frames_at}
use Rattle.spaces.proofs.Common.{pipe_frames, pipe_shown, ◌≡◌, ◌≢◌, ℕ, suc, ◌+◌, ◌<◌, List, [], ◌∷◌, length, map}
use Rattle.spaces.proofs.Common.{slice_set, Option, Some, None, refl, ap, arith, length-map, prefix_len, cond, is_none}
use Rattle.spaces.proofs.Common.{not, free_slot, slot, taken, Space, IsMachine, one-place, trade-rest, get_or-map}
use Rattle.spaces.proofs.Common.{free_count, one_if, Inside, frames_in, has_space, view_at, no_pages, taken_frames}
use Rattle.spaces.proofs.Common.{IsSpaces, view_with, shown, spaces_of, ◌≤◌, Bool, true, false, get_or, nat_lt, sym}
use Rattle.spaces.proofs.Common.{◌∙◌, if◌then◌else◌, is_some, sum_by, unwrap_or, sum_by-cons, page_frames, frames_for}
use Rattle.spaces.proofs.Common.{length-mapping, right_marks, frames_used, free-left, mapping_of, pages_in, pages_of}
use Rattle.spaces.proofs.Common.{IsMemory, Page, ceil_div, IsSized}
use Rattle.pipe.proofs.Steps.{bytes_of-same}
use Rattle.vm.specs.Shares as shares
use Rattle.spaces.proofs.SpacesLemmas.{Pipes, Places, map-placed, map-same}
use Rattle.vm.proofs.PageLemmas.{pages-sized}

-- ---- one slot

pub pipe-slot : (m : Ram) (ps : Pipes) (q : ℕ) → slot (map (pipe_shown m) ps) q ≡ pipe_shown m (slot ps q)
pipe-slot m ps q = get_or-map (pipe_shown m) ps q None

pub pipe-free : (m : Ram) (o : Option Pipe) → pipe_shown m o ≡ None → o ≡ None
pipe-free m None e = refl
pipe-free m (Some p) e = absurd (cc)

is_none-shown : (m : Ram) (o : Option Pipe) → is_none (pipe_shown m o) ≡ is_none o
is_none-shown m None = refl
is_none-shown m (Some p) = refl

taken_first : (m : Ram) (ps : Pipes)
    → prefix_len (λ o. not (is_none o)) (map (pipe_shown m) ps) ≡ prefix_len (λ o. not (is_none o)) ps
taken_first m [] = refl
taken_first m (o ∷ ps) = rw (is_none-shown m o) (ap (λ n. cond (not (is_none o)) (1 + n) 0) (taken_first m ps))

-- the lowest free slot
pub free-shown : (m : Ram) (ps : Pipes) → free_slot (map (pipe_shown m) ps) ≡ free_slot ps
free-shown m ps = rw (taken_first m ps, length-map ps (pipe_shown m)) refl

-- ---- counts

pipes-taken : (m : Ram) (ps : Pipes) → length (taken (map (pipe_shown m) ps)) ≡ length (pipe_frames ps)
pipes-taken m [] = refl
pipes-taken m (None ∷ ps) = pipes-taken m ps
pipes-taken m (Some p ∷ ps) = ap suc (pipes-taken m ps)

-- the frame of a pipe is one of those that pipes hold
pub pipe-held : (ps : Pipes) (q : ℕ) (p : Pipe) → slot ps q ≡ Some p → 0 < count_of p.frame (pipe_frames ps)
pipe-held ps q p e =
    let here : count_of p.frame (frames_at (slot ps q)) ≡ 1 + count_of p.frame [] =
    rw e (count_of-first p.frame p.frame [] refl) in
    omega (arith, here, one-place frames_at p.frame ps q refl)

-- ---- pipes whose frames keep their bytes

pipe-kept : (m k : Ram) (o : Option Pipe) → ((p : Pipe) → o ≡ Some p → frame_of k p.frame ≡ frame_of m p.frame)
    → pipe_shown k o ≡ pipe_shown m o
pipe-kept m k None same = refl
pipe-kept m k (Some p) same = ap Some (bytes_of-same m k p (same p refl))

pub pipes-placed : (m k : Ram) (ps : Pipes) (q : ℕ) (y : Option Pipe)
    → ((r : ℕ) (p : Pipe) → r ≢ q → slot ps r ≡ Some p → frame_of k p.frame ≡ frame_of m p.frame)
    → map (pipe_shown k) (slice_set ps q y) ≡ slice_set (map (pipe_shown m) ps) q (pipe_shown k y)
pipes-placed m k ps q y same =
    map-placed (pipe_shown m) (pipe_shown k) ps q y (λ r ne. pipe-kept m k (slot ps r) (λ p. same r p ne))

-- pipes are as they were where a space trades
pub pipes-beside : (m k : Ram) (s n : Frames) (places : Places) (ps : Pipes) (new : List ℕ) (at : ℕ)
    → IsMachine m s places (pipe_frames ps) → Trades m k s n (shares.held_at m (slot places at)) new
    → map (pipe_shown k) ps ≡ map (pipe_shown m) ps
pipes-beside m k s n places ps new at is trades =
    map-same (pipe_shown m) (pipe_shown k) ps
    (λ q. pipe-kept m k (slot ps q)
    (λ p e. trade-rest m k s n places (pipe_frames ps) new at p.frame is trades (pipe-held ps q p e)))

-- a slot of the fields, read through a borrowed slice of the slots
pub there : {xs ys : Places} {x : Space} (at : ℕ) → xs ≡ ys → get_or xs at None ≡ Some x → slot ys at ≡ Some x
there at same e = ap (λ l. get_or l at None) (sym same) ∙ e

shown-slot : (m : Ram) (places : Places) (at : ℕ) → slot (map (shown m) places) at ≡ shown m (slot places at)
shown-slot m places at = get_or-map (shown m) places at None

pub slot-is : {T : Type 0} (i : Inside T) (at : ℕ) (o : Option Space) → slot i.places.items at ≡ o
    → slot (spaces_of i).places at ≡ shown i.memory.ram o
slot-is i at o e = shown-slot i.memory.ram i.places.items at ∙ ap (shown i.memory.ram) e

some-shown : (m : Ram) (o : Option Space) → is_some o ≡ is_some (shown m o)
some-shown m None = refl
some-shown m (Some x) = refl

-- a slot shows a space where it has one
pub shown-there : {T : Type 0} (i : Inside T) (at : ℕ) → is_some (slot i.places.items at) ≡ has_space (spaces_of i) at
shown-there i at = some-shown i.memory.ram (slot i.places.items at)
    ∙ ap is_some (sym (shown-slot i.memory.ram i.places.items at))

pub stands-there : {T : Type 0} (i : Inside T) (at : ℕ) → has_space (spaces_of i) at ≡ true
    → is_some (slot i.places.items at) ≡ true
stands-there i at has = shown-there i at ∙ has

pub missing : {T : Type 0} (i : Inside T) (at : ℕ) {xs : Places} → has_space (spaces_of i) at ≡ true
    → xs ≡ i.places.items → get_or xs at None ≡ None → ⊥
missing i at has same e =
    let bad : false ≡ true = ap is_some (sym e) ∙ ap (λ l. is_some (get_or l at None)) same ∙ stands-there i at has in
    cc

pub held-is : {T : Type 0} (i : Inside T) (at : ℕ) {x : Space} → slot i.places.items at ≡ Some x
    → view_at (spaces_of i) at ≡ view_with (pages_of i.memory.ram x) x.size
held-is i at {x} e = ap (λ o. unwrap_or o no_pages) (slot-is i at (Some x) e)

none-shown : (m : Ram) (o : Option Space) → shown m o ≡ None → o ≡ None
none-shown m None e = refl
none-shown m (Some x) e = absurd (cc)

pub free-is : {T : Type 0} (i : Inside T) (at : ℕ) → slot (spaces_of i).places at ≡ None → slot i.places.items at ≡ None
free-is i at e = none-shown i.memory.ram (slot i.places.items at) (sym (shown-slot i.memory.ram i.places.items at) ∙ e)

pub places-count : {T : Type 0} (i : Inside T) → length (spaces_of i).places ≡ length i.places.items
places-count i = length-map i.places.items (shown i.memory.ram)

-- ---- counts

one_if-if : (b : Bool) → one_if b ≡ (if b then 1 else 0)
one_if-if true = refl
one_if-if false = refl

pub frames_for-pages : (n : ℕ) → frames_for n ≡ 4 + page_frames n
frames_for-pages n = omega (arith, one_if-if (nat_lt 0 n))

pub length-pages_of : (m : Ram) (x : Space) → length (pages_of m x) ≡ pages_in x.size
length-pages_of m x = length-map (mapping_of m x) _ ∙ length-mapping right_marks m x.root.0 (pages_in x.size)

pub frames-shown : (m : Ram) (x : Space) → frames_in (shown m (Some x)) ≡ frames_for (pages_in x.size)
frames-shown m x = ap (λ n. 4 + page_frames n) (length-pages_of m x) ∙ sym (frames_for-pages (pages_in x.size))

used-shown : (m : Ram) (o : Option Space) → frames_in (shown m o) ≡ frames_used o
used-shown m None = refl
used-shown m (Some x) = frames-shown m x

sum-shown : (m : Ram) (places : Places) → sum_by frames_in (map (shown m) places) ≡ sum_by frames_used places
sum-shown m [] = refl
sum-shown m (x ∷ xs) =
    omega (
      arith,
      sum_by-cons frames_in (shown m x) (map (shown m) xs),
      sum_by-cons frames_used x xs,
      used-shown m x,
      sum-shown m xs,
    )

-- the free frames are all except those that the slots take
pub free-taken : {T : Type 0} (held : T → Held) (i : Inside T) → IsSpaces held i
    → free_count i.memory.ram i.memory.frames + taken_frames (spaces_of i) ≡ length i.memory.ram
free-taken held i is =
    omega (
      arith,
      free-left i.memory.ram i.memory.frames i.places.items (pipe_frames i.pipes.items) is.machine,
      sum-shown i.memory.ram i.places.items,
      pipes-taken i.memory.ram i.pipes.items,
    )

pub taken-fits : {T : Type 0} (held : T → Held) (i : Inside T) → IsSpaces held i
    → taken_frames (spaces_of i) ≤ length i.memory.ram
taken-fits held i is = omega (arith, free-taken held i is)

-- ---- the pages of a slot that has a space are no more than frames, as many as its size asks for, and of 4096 bytes
-- each

pub record IsWhole (memory : List Page) (size : ℕ) : Type 0 where
  pub few : length memory ≤ 32768
  pub whole : length memory ≡ ceil_div size 4096
  pub sized : IsSized memory

pub are-whole : {T : Type 0} (held : T → Held) (i : Inside T) → IsSpaces held i → (at : ℕ) (o : Option Space)
    → slot i.places.items at ≡ o → is_some o ≡ true
    → IsMemory i.memory.ram → IsWhole (view_at (spaces_of i) at).memory (view_at (spaces_of i) at).size
are-whole held i is at None there has framed = absurd (cc)
are-whole held i is at (Some x) there has framed =
    let space = is.machine.each at x there in
    rw (held-is i _ there)
    (record {
      few = rw (length-pages_of i.memory.ram x) space.dense.small;
      whole = length-pages_of i.memory.ram x;
      sized = pages-sized i.memory.ram x.root.0 x.trap.0 (pages_in x.size) framed space.dense;
    })
