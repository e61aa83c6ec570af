-- The pages of a slot, as a program is loaded into them.
use Rattle.programs.proofs.Common.{◌%◌, ◌*◌, ◌+◌, ◌++◌, ◌-◌, ◌/◌, ◌<◌, [], ap, append-nil, append_assoc, arith, Bool}
use Rattle.programs.proofs.Common.{drop, Err, false, get_or-set_same, length, length-append, List, None, Ok, Option}
use Rattle.programs.proofs.Common.{refl, replicate, Result, Some, subst, suc, sym, take, true, zero, ℕ, ◌∙◌, ◌∷◌, ◌≡◌}
use Rattle.programs.proofs.Common.{◌≤◌, lt-ltb, nat_tests, drop-replicate, drop_all, drop_at, length-drop, length-map}
use Rattle.programs.proofs.Common.{length-replicate, length-take, length-take-le, replicate-append-replicate, set-set}
use Rattle.programs.proofs.Common.{take_at, if◌then◌else◌, is_some, OnErr, OnOk, part, DeviceFault, is_within}
use Rattle.programs.proofs.Common.{segment_shown, LoadSegment, HasRead, held-there, self-held, read-all, read-end}
use Rattle.programs.proofs.Common.{read-more, space-within, frames_in, has_space, Spaces, SpaceView, taken_frames}
use Rattle.programs.proofs.Common.{view_at, with_view, written, FileTree, Serves, page_frames, Files, Node, slot}
use Rattle.programs.proofs.Common.{Memory, overwrite, Page, Perm, write_from, zero_page, pages_of, write_bytes, zeros}
use Rattle.programs.proofs.Common.{ceil_div, Segment, segment_marks, stack_marks, segment_pages, bytes_or_none, IsSized}
use Rattle.programs.proofs.Common.{file_at, stacked, Follows, HasRoom, IsPaged, Leaves, paged, with_more, with_paged}
use Rattle.spaces.proofs.SpacesLemmas.{held-same, taken-placed}
use Rattle.file_transfers.proofs.Memory.{marks-written}
use Rattle.std.proofs.Math.Nat.{zero-add}
use Rattle.programs.proofs.Reading.{IsKept}
use Rattle.programs.proofs.Stacks.{write-stack}
use Rattle.file_transfers.specs.Moved.{bytes_of, bytes_read, with_bytes}

-- ---- frames

suc-frames : (n : ℕ) → page_frames (suc n) ≡ suc n + ceil_div (suc n) 512 + 1
suc-frames n = ap (λ (b : Bool). suc n + ceil_div (suc n) 512 + (if b then 1 else 0)) (lt-ltb 0 (suc n) (omega arith))

pub page_frames-more : (a b : ℕ) → a ≤ b → page_frames a ≤ page_frames b
page_frames-more zero b less = omega arith
page_frames-more (suc a) zero less = absurd (omega arith)
page_frames-more (suc a) (suc b) less = rw (suc-frames a, suc-frames b) (omega (arith, less))

-- what has room for more pages has room for fewer
pub room-less : (s : Spaces) (at : ℕ) {a b : ℕ} → a ≤ b → HasRoom s at b → HasRoom s at a
room-less s at {a} {b} less room = omega (arith, room, page_frames-more a b less)

-- what the slot holds doesn't count
pub room-held : {new : Spaces} (s : Spaces) (at : ℕ) (h : SpaceView) {a b : ℕ} → new ≡ with_view s at h → a ≤ b
    → HasRoom s at b → HasRoom new at a
room-held s at h {a} {b} put less room =
    subst (λ (k : Spaces). HasRoom k at a) (sym put)
    (subst (λ (ps : List (Option SpaceView)). taken_frames (record s { places = ps }) + 4 + page_frames a ≤ s.frames)
    (sym (set-set s.places at (Some h) None)) (room-less s at less room))

-- ---- a slot

pub has-held : {new : Spaces} (s : Spaces) (at : ℕ) (h : SpaceView) → new ≡ with_view s at h → has_space s at ≡ true
    → has_space new at ≡ true
has-held s at h put has = ap (λ (k : Spaces). has_space k at) put
    ∙ ap is_some (get_or-set_same s.places at (Some h) None (space-within s at has))

pub is-held : {new : Spaces} (s : Spaces) (at : ℕ) {h : SpaceView} → new ≡ with_view s at h → has_space s at ≡ true
    → view_at new at ≡ h
is-held s at {h} put has = ap (λ (k : Spaces). view_at k at) put ∙ held-same s at h (space-within s at has)

pub paged-held : {new : Spaces} (s : Spaces) (at : ℕ) (m : Memory) → new ≡ with_paged s at m → has_space s at ≡ true
    → IsPaged (view_at new at)
paged-held s at m put has = subst IsPaged (sym (is-held s at put has)) refl

-- the last write stays
pub held-twice : (s : Spaces) (at : ℕ) (a b : SpaceView) → with_view (with_view s at a) at b ≡ with_view s at b
held-twice s at a b = ap (λ (ps : List (Option SpaceView)). record s { places = ps })
    (set-set s.places at (Some a) (Some b))

-- beside what the slot holds, which goes then
pub room-beside : (s : Spaces) (at n : ℕ) → has_space s at ≡ true → taken_frames s + 3 + page_frames n ≤ s.frames
    → HasRoom s at n
room-beside s at n has enough =
    let placed = taken-placed s at None (space-within s at has) in
    let four : frames_in (slot s.places at) ≡ 4 + page_frames (length (view_at s at).memory) =
    ap frames_in (sym (held-there s at has)) in
    omega (arith, enough, placed, four)

-- ---- bytes of a file

pub length-write : (mem : Memory) (at : ℕ) (bytes : List ℕ) → length (write_bytes mem at bytes) ≡ length mem
length-write mem at bytes = sym (length-map (write_bytes mem at bytes) (λ (p : Page). p.marks))
    ∙ ap length (marks-written _ at _) ∙ length-map mem (λ (p : Page). p.marks)

-- what file_transfers reads of it
file-read : (files : Files) (n offset count : ℕ) → bytes_read files n offset count ≡ part offset count (file_at files n)
file-read files n offset count = ap (λ bytes. take count (drop offset bytes)) (go (slot files n)) where
  go : (o : Option Node) → bytes_of o ≡ bytes_or_none o
  go None = refl
  go (Some node) = refl

-- the pieces are in the file
piece-within : (offset : ℕ) {count len done : ℕ} (size : ℕ) → is_within offset count len ≡ true → done < count
    → done + size ≤ count → offset + done + size ≤ len
piece-within offset size within more fits = grind (arith, nat_tests, within, more, fits)

module _ {old now : FileTree} {before after : Spaces} {at number offset address count done : ℕ}
    (has : HasRead old now before after at number offset address count done) where
  pub filled-kept : old.failed ≡ false → IsKept old now
  filled-kept up = record { same = has.same; up = ap (λ (t : FileTree). t.failed) has.same ∙ up; later = has.later }

  pub filled-all : count ≤ done → after ≡ with_bytes before at address (part offset count (file_at old.files number))
  filled-all over = (read-all has (read-end has over)).1
      ∙ ap (with_bytes before at address) (file-read old.files number offset count)

  pub filled-within : is_within offset count (length (file_at old.files number)) ≡ true → done < count → (l : ℕ)
      → done + l ≤ count → offset + done + l ≤ length (file_at now.files number)
  filled-within within more l fits =
      let same = ap (λ (t : FileTree). length (file_at t.files number)) has.same in
      omega (arith, piece-within offset l within more fits, same)

  module _ (space : has_space before at ≡ true) where
    pub filled-inside : (l : ℕ) → address + count ≤ 4096 * length (view_at before at).memory → done + l ≤ count
        → address + done + l ≤ 4096 * length (view_at after at).memory
    filled-inside l inside fits =
        let bytes = bytes_read old.files number offset done in
        let stay : length (view_at after at).memory ≡ length (view_at before at).memory =
        ap (λ (h : SpaceView). length h.memory) (is-held _ at has.bytes space) ∙ length-write _ _ _ in
        omega (arith, inside, fits, stay)

    pub filled-more : {next : FileTree} {more : Spaces} {l size : ℕ} → l ≡ size → done < count → done + l ≤ count
        → IsSized (view_at before at).memory → is_within offset count (length (file_at old.files number)) ≡ true
        → Serves {T = Unit {0}} now next (Ok tt) (Leaves now next)
        → more ≡ with_bytes after at (address + done) (part (offset + done) l (file_at now.files number))
        → HasRead old next before more at number offset address count (done + size)
    filled-more {next} {more} {l} is less fits sized within serves put =
        let here = file-read now.files number (offset + done) l in
        let long : l ≡ length (part (offset + done) l (file_at now.files number)) =
        sym (length-take-le l (drop (offset + done) (file_at now.files number))
        (omega (
          arith,
          piece-within offset l within less fits,
          length-drop (offset + done) (file_at now.files number),
          ap (λ (t : FileTree). length (file_at t.files number)) has.same,
        ))) in
        subst (λ n. HasRead old next before more at number offset address count (done + n)) is
        (read-more has fits (record { same = serves.told; count = long ∙ ap length (sym here) }) space sized
        serves.cause.later (put ∙ ap (with_bytes after at (address + done)) (sym here)))

-- ---- a segment

write-behind : (xs ys : Memory) (bytes : List ℕ)
    → write_bytes (xs ++ ys) (4096 * length xs) bytes ≡ xs ++ write_bytes ys 0 bytes
unfolding write_bytes
write-behind xs ys bytes =
    let page : 4096 * length xs / 4096 ≡ length xs = omega arith in
    let from : 4096 * length xs % 4096 ≡ 0 = omega arith in
    let front : take (length xs) (xs ++ ys) ≡ xs = take_at xs ys (length xs) refl in
    let back : drop (length xs) (xs ++ ys) ≡ ys = drop_at xs ys (length xs) refl in
    rw (page, from, front, back) refl

first-page : (bytes : List ℕ)
    → overwrite (zeros 4096) 0 (take 4096 bytes) ≡ take 4096 bytes ++ zeros (4096 - length bytes)
unfolding zeros
first-page bytes =
    let short : 4096 - length (take 4096 bytes) ≡ 4096 - length bytes = omega (arith, length-take 4096 bytes) in
    ap (λ n. take 4096 bytes ++ drop n (zeros 4096)) (zero-add (length (take 4096 bytes)))
    ∙ ap (λ rest. take 4096 bytes ++ rest) (drop-replicate _ _ 0 ∙ ap zeros short)

empty-pages : (marks : Perm) (n : ℕ) → replicate n (zero_page marks) ≡ pages_of marks n []
unfolding pages_of
empty-pages marks zero = refl
empty-pages marks (suc n) = ap (λ ps. zero_page marks ∷ ps) (empty-pages _ n)

-- bytes written over pages of zeros
filled-from : (marks : Perm) (n : ℕ) (bytes : List ℕ)
    → write_from (replicate n (zero_page marks)) 0 bytes ≡ pages_of marks n bytes
unfolding pages_of
filled-from marks zero bytes = refl
filled-from marks (suc n) [] = empty-pages marks (suc n)
filled-from marks (suc n) (b ∷ bs) =
    let page : Page = record { bytes = take 4096 (b ∷ bs) ++ zeros (4096 - length (b ∷ bs)); marks = marks } in
    ap (λ front. let p : Page = record { bytes = front; marks = marks } in p
    ∷ write_from (replicate n (zero_page marks)) 0 (drop 4096 (b ∷ bs))) (first-page (b ∷ bs))
    ∙ ap (λ ps. page ∷ ps) (filled-from _ n _)

pub filled : (marks : Perm) (n : ℕ) (bytes : List ℕ)
    → write_bytes (replicate n (zero_page marks)) 0 bytes ≡ pages_of marks n bytes
unfolding write_bytes
filled marks n bytes = filled-from _ n _

segment-filled : (file : List ℕ) (mem : Memory) (g : Segment) → g.address % 4096 ≡ 0 → 4096 * length mem ≤ g.address
    → write_bytes (mem ++ replicate (ceil_div (g.address + g.size) 4096 - length mem) (zero_page (segment_marks g)))
    g.address (part g.offset g.file_size file) ≡ mem ++ segment_pages file (length mem) g
unfolding segment_pages
segment-filled file mem g aligned after =
    let z = zero_page (segment_marks g) in
    let gap = g.address / 4096 - length mem in
    let count = ceil_div g.size 4096 in
    let bytes = part g.offset g.file_size file in
    let all : ceil_div (g.address + g.size) 4096 - length mem ≡ gap + count = omega (arith, aligned, after) in
    let front : length (mem ++ replicate gap z) ≡ g.address / 4096 =
    omega (arith, length-append mem (replicate gap z), length-replicate gap z, aligned, after) in
    let place : g.address ≡ 4096 * length (mem ++ replicate gap z) = omega (arith, front, aligned) in
    let taken : g.file_size ≡ g.offset + g.file_size - g.offset = omega arith in
    ap (λ n. write_bytes (mem ++ replicate n z) g.address bytes) all
    ∙ ap (λ ps. write_bytes (mem ++ ps) g.address bytes) (sym (replicate-append-replicate gap count z))
    ∙ ap (λ ps. write_bytes ps g.address bytes) (sym (append_assoc mem (replicate gap z) (replicate count z)))
    ∙ ap (λ a. write_bytes ((mem ++ replicate gap z) ++ replicate count z) a bytes) place
    ∙ write-behind _ _ _
    ∙ ap (λ ps. (mem ++ replicate gap z) ++ ps) (filled _ _ _)
    ∙ append_assoc mem (replicate gap z) (pages_of (segment_marks g) count bytes)
    ∙ ap (λ n. mem ++ (replicate gap z ++ pages_of (segment_marks g) count (take n (drop g.offset file)))) taken

-- bytes that are written into pages
with-written : (s : Spaces) (at : ℕ) (m : Memory) (address : ℕ) (bytes : List ℕ) → has_space s at ≡ true
    → with_bytes (with_view s at (paged m)) at address bytes ≡ with_view s at (paged (write_bytes m address bytes))
with-written s at m address bytes has =
    ap (λ (h : SpaceView). with_view (with_view s at (paged m)) at (written h address bytes)) (is-held s at refl has)
    ∙ held-twice s at _ _
    ∙ ap (λ n. with_view s at (let h : SpaceView = record { memory = write_bytes m address bytes; size = 4096 * n }
    in h)) (sym (length-write m _ _))

-- some space is left, in two steps
pub left-held : {s1 s2 : Spaces} (s : Spaces) (at : ℕ) (h : SpaceView) → s1 ≡ with_view s at h
    → (x : SpaceView) × (s2 ≡ with_view s1 at x) → (x : SpaceView) × (s2 ≡ with_view s at x)
left-held s at h before left =
    (left.0, left.1 ∙ ap (λ (k : Spaces). with_view k at left.0) before ∙ held-twice s at h _)

-- a failure leaves some space
pub still-held : {A : Type 0} (s : Spaces) {s1 : Spaces} (s2 : Spaces) (at : ℕ) (h : SpaceView)
    (r : Result A DeviceFault) → s1 ≡ with_view s at h → OnErr r ((x : SpaceView) × (s2 ≡ with_view s1 at x))
    → OnErr r ((x : SpaceView) × (s2 ≡ with_view s at x))
still-held s s2 at h (Ok done) before failed = tt
still-held s s2 at h (Err fault) before failed = left-held s at h before failed

pub held-still : {A : Type 0} (s : Spaces) (at : ℕ) (r : Result A DeviceFault) → has_space s at ≡ true
    → OnErr r ((x : SpaceView) × (s ≡ with_view s at x))
held-still s at (Ok done) has = tt
held-still s at (Err fault) has = (view_at s at, self-held s at has)

-- ---- a segment in a slot

abbrev marks_of : LoadSegment → Perm
marks_of g = record { writable = g.writable; executable = g.executable; user = true; shared = false }

segment-in : (s : Spaces) {s1 s2 : Spaces} (at : ℕ) (file : List ℕ) (mem : Memory) {count : ℕ} (g : Segment)
    → has_space s at ≡ true → Follows (length file) (length mem) (segment_shown g)
    → count ≡ ceil_div (g.address + g.size) 4096 - length mem
    → s1 ≡ with_view s at (paged (mem ++ replicate count (zero_page (segment_marks g))))
    → s2 ≡ with_bytes s1 at g.address (part g.offset g.file_size file)
    → s2 ≡ with_view s at (paged (mem ++ segment_pages file (length mem) g))
segment-in s at file mem g has follows is added put =
    put
    ∙ ap (λ (k : Spaces). with_bytes k at g.address (part g.offset g.file_size file))
    (added ∙ ap (λ n. with_view s at (paged (mem ++ replicate n (zero_page (segment_marks g))))) is)
    ∙ with-written s at _ _ _ has
    ∙ ap (λ (m : Memory). with_view s at (paged m)) (segment-filled _ _ g follows.aligned follows.after)

pub segment-loaded : (s : Spaces) {s1 : Spaces} (s2 : Spaces) (at : ℕ) (file : List ℕ) (mem : Memory) {count : ℕ}
    {shown : LoadSegment} → has_space s at ≡ true → Follows (length file) (length mem) shown
    → count ≡ ceil_div (shown.address + shown.size) 4096 - length mem
    → s1 ≡ with_view s at (paged (mem ++ replicate count (zero_page (marks_of shown))))
    → (r : Result (Unit {0}) DeviceFault)
    → OnOk r (s2 ≡ with_bytes s1 at shown.address (part shown.offset shown.file_size file))
    → OnOk r ((g : Segment) → shown ≡ segment_shown g
    → s2 ≡ with_view s at (paged (mem ++ segment_pages file (length mem) g)))
segment-loaded s s2 at file mem has follows is added (Err fault) put = tt
segment-loaded s {s1} s2 at file mem {count} has follows is added (Ok done) put =
    λ g same. segment-in s at _ _ g has (rw same at follows) (rw same at is) (rw same at added) (rw same at put)

-- ---- the stack

-- a whole page is overwritten
page-over : {page : List ℕ} → length page ≡ 4096 → overwrite (zeros 4096) 0 page ≡ page
unfolding zeros
page-over {page} whole =
    let all : 0 + length page ≡ 4096 = omega (arith, whole) in
    ap (λ n. page ++ drop n (zeros 4096)) all
    ∙ ap (λ l. page ++ l) (drop_all 4096 (zeros 4096) (omega (arith, length-replicate {A = ℕ} 4096 0)))
    ∙ append-nil page

-- the guard page is there, and then the page of the stack
pub one-longer : {s1 : Spaces} (s : Spaces) (at : ℕ) (z : Page) → has_space s at ≡ true
    → s1 ≡ with_more s at (replicate 1 z) → length (view_at s1 at).memory ≡ length (view_at s at).memory + 1
one-longer s at z has put = ap (λ (h : SpaceView). length h.memory) (is-held s at put has)
    ∙ length-append (view_at s at).memory (replicate 1 z)

pub stack-added : (s : Spaces) {s1 s2 s3 : Spaces} (at : ℕ) (page : List ℕ) (address : ℕ) → has_space s at ≡ true
    → address ≡ (length (view_at s at).memory + 1) * 4096 → length page ≡ 4096
    → s1 ≡ with_more s at (replicate 1 (zero_page (stack_marks false)))
    → s2 ≡ with_more s1 at (replicate 1 (zero_page (stack_marks true)))
    → s3 ≡ with_view s2 at (written (view_at s2 at) address page)
    → s3 ≡ with_view s at (paged (stacked (view_at s at).memory page))
stack-added s {s2} at page address has is whole guard stack put =
    let mem = (view_at s at).memory in
    let g = zero_page (stack_marks false) in
    let z = zero_page (stack_marks true) in
    let second : s2 ≡ with_view s at (paged (mem ++ g ∷ z ∷ [])) =
    stack
    ∙ ap (λ (k : Spaces). with_view k at (paged ((view_at k at).memory ++ z ∷ []))) guard
    ∙ ap (λ (h : SpaceView). with_view (with_view s at (paged (mem ++ g ∷ []))) at (paged (h.memory ++ z ∷ [])))
    (held-same s at _ (space-within s at has))
    ∙ held-twice s at _ _
    ∙ ap (λ (m : Memory). with_view s at (paged m)) (append_assoc mem (g ∷ []) (z ∷ [])) in
    let place : address ≡ 4096 * (length mem + 1) + 0 = omega (arith, is) in
    let all : overwrite (zeros 4096) 0 page ≡ page = page-over whole in
    put
    ∙ ap (λ (k : Spaces). with_view k at (written (view_at k at) address page)) second
    ∙ with-written s at _ _ _ has
    ∙ ap (λ a. with_view s at (paged (write_bytes (mem ++ g ∷ z ∷ []) a page))) place
    ∙ ap (λ (m : Memory). with_view s at (paged m)) (write-stack _ _ 0 _ (omega (arith, whole)) (omega (arith, whole)))
    ∙ ap (λ (l : List ℕ). with_view s at (paged (stacked mem l))) all
