-- The space of a flat program as it is made: its pages, their bytes, the guard page and the stack.
use Rattle.machine.proofs.Common.{[], alone, ap, arith, Bool, BootFault, ceil_div, Err, false, flat_space, FrameCount}
use Rattle.machine.proofs.Common.{has_space, IsErrOf, length, length-append, length-replicate, List, no_pages}
use Rattle.machine.proofs.Common.{no_spaces, NoInit, NoMemory, Ok, OnErr, page_frames, refl, replicate, Result, Spaces}
use Rattle.machine.proofs.Common.{SpaceView, stack_marks, subst, sym, taken_frames, true, with_view, ℕ, ◌*◌, ◌++◌, ◌+◌}
use Rattle.machine.proofs.Common.{◌-◌, ◌/◌, ◌<◌, ◌↔◌, ◌∙◌, ◌∷◌, ◌≡◌, ◌≤◌, ◌⊎◌}
use Rattle.machine.proofs.FlatLemmas.{all_marks, flat_pages, length-flat, program_pages, taken-alone}
use Rattle.unixmodel.specs.Plan.{with_stack}
use Rattle.unixmodel.specs.Memory.{Memory, zero_page}
use Rattle.spaces.specs.Spaces.{grown, view_at, written}
use Rattle.machine.specs.Flat.{flat_memory, LoadsFlat, RefusesFlat}
use Rattle.std.proofs.Common.{append_assoc, inl, inr}
use Rattle.programs.proofs.Headings.{length-pages}
use Rattle.programs.proofs.Places.{filled, page_frames-more}
use Rattle.std.specs.Bool.{OnFalse, OnTrue}

-- ---- the space as it is made: the pages of the program, its bytes in them, the guard page, the stack

abbrev pub segment : List ℕ → SpaceView
segment bytes = record {
  memory = replicate (program_pages bytes) (zero_page all_marks);
  size = program_pages bytes * 4096;
}

abbrev pub filled_segment : List ℕ → SpaceView
filled_segment bytes = record { memory = flat_pages bytes; size = program_pages bytes * 4096 }

abbrev pub guarded : List ℕ → SpaceView
guarded bytes = record {
  memory = flat_pages bytes ++ zero_page (stack_marks false) ∷ [];
  size = program_pages bytes * 4096 + 4096;
}

segment-is : (bytes : List ℕ) (b : ℕ) → b ≡ program_pages bytes * 4096 → grown no_pages b all_marks ≡ segment bytes
segment-is bytes b is =
    let n : ceil_div (0 + b) 4096 - ceil_div 0 4096 ≡ program_pages bytes = omega (arith, is) in
    let size : 0 + b ≡ program_pages bytes * 4096 = omega (arith, is) in
    rw (n, size) refl

filled-is : (bytes : List ℕ) → written (segment bytes) 0 bytes ≡ filled_segment bytes
filled-is bytes = ap (λ (memory : Memory).
    let h : SpaceView = record { memory = memory; size = program_pages bytes * 4096 } in h)
    (filled all_marks (program_pages bytes) bytes)

guarded-is : (bytes : List ℕ) → grown (filled_segment bytes) 4096 (stack_marks false) ≡ guarded bytes
guarded-is bytes =
    let one : ceil_div (program_pages bytes * 4096 + 4096) 4096 - ceil_div (program_pages bytes * 4096) 4096 ≡ 1 =
    omega arith in
    rw one refl

stacked-is : (bytes : List ℕ) → grown (guarded bytes) 4096 (stack_marks true) ≡ flat_space bytes
unfolding with_stack
stacked-is bytes =
    let one : ceil_div (program_pages bytes * 4096 + 4096 + 4096) 4096 - ceil_div (program_pages bytes * 4096 + 4096)
    4096 ≡ 1 = omega arith in
    let size : program_pages bytes * 4096 + 4096 + 4096 ≡ 4096 * length (flat_memory bytes) =
    omega (arith, length-flat bytes) in
    let memory = append_assoc (flat_pages bytes) (zero_page (stack_marks false) ∷ [])
    (zero_page (stack_marks true) ∷ []) in
    rw (one, size) (ap (λ (memory : Memory).
    let h : SpaceView = record { memory = memory; size = 4096 * length (flat_memory bytes) } in h) memory)

-- the space in slot 0 changes
abbrev pub changed : Spaces → (SpaceView → SpaceView) → Spaces
changed s change = with_view s 0 (change (view_at s 0))

abbrev pub with_stack_page : Spaces → Spaces
with_stack_page s = changed s (λ h. grown h 4096 (stack_marks true))

-- the changed space is put there, or would not fit
module _ {frames : ℕ} {s : Spaces} {h new : SpaceView} (change : SpaceView → SpaceView) (is : s ≡ alone frames h)
    (to : change h ≡ new) where
  placed : {t : Spaces} → t ≡ changed s change → t ≡ alone frames new
  placed done = rw (done, is, to) refl

  takes : taken_frames (changed s change) ≡ 4 + page_frames (length new.memory)
  takes = rw (is, to) (taken-alone frames new)

  over : (bytes : List ℕ) → length new.memory ≤ length (flat_memory bytes) → s.frames < taken_frames (changed s change)
      → frames < 4 + page_frames (length (flat_memory bytes))
  over bytes less full = omega (
    arith,
    full,
    takes,
    ap (λ (x : Spaces). x.frames) is,
    page_frames-more (length new.memory) (length (flat_memory bytes)) less,
  )

-- the first slot of no spaces is free, and has a space where one is alone
pub first-free : {frames : ℕ} {s : Spaces} → s ≡ no_spaces frames → has_space s 0 ≡ false
first-free is = ap (λ (s : Spaces). has_space s 0) is

pub alone-space : {frames : ℕ} {h : SpaceView} {s : Spaces} → s ≡ alone frames h → has_space s 0 ≡ true
alone-space is = ap (λ (s : Spaces). has_space s 0) is

pub flat-size : {frames size : ℕ} {s : Spaces} (bytes : List ℕ) → size ≡ (view_at s 0).size
    → s ≡ alone frames (flat_space bytes) → size ≡ 4096 * length (flat_memory bytes)
flat-size bytes told is = told ∙ ap (λ (s : Spaces). (view_at s 0).size) is

-- no spaces over that many frames
pub frames-of : {frames : ℕ} {s : Spaces} → s ≡ no_spaces frames → s.frames ≡ frames
frames-of is = ap (λ (x : Spaces). x.frames) is

pub none-of : {frames : ℕ} {s : Spaces} → s ≡ no_spaces frames → s ≡ no_spaces s.frames
none-of is = is ∙ ap no_spaces (sym (frames-of is))

pub created : {frames : ℕ} {s t : Spaces} → s ≡ no_spaces frames → t ≡ with_view s 0 no_pages
    → t ≡ alone frames no_pages
created is done = done ∙ ap (λ (x : Spaces). with_view x 0 no_pages) is

module _ (bytes : List ℕ) {frames : ℕ} {s : Spaces} where
  pub segment-over : (b : ℕ) {none : Spaces} → b ≡ program_pages bytes * 4096 → none ≡ no_spaces frames
      → s ≡ with_view none 0 no_pages → s.frames < taken_frames (with_view s 0 (grown (view_at s 0) b all_marks))
      → frames < 4 + page_frames (length (flat_memory bytes))
  segment-over b size is done full =
      over (λ h. grown h b all_marks) (created is done) (segment-is bytes b size) bytes
      (rw (length-flat bytes, length-replicate (program_pages bytes) (zero_page all_marks)) (omega arith)) full

  pub segment-made : (b : ℕ) {none t : Spaces} → b ≡ program_pages bytes * 4096 → none ≡ no_spaces frames
      → s ≡ with_view none 0 no_pages → t ≡ with_view s 0 (grown (view_at s 0) b all_marks)
      → t ≡ alone frames (segment bytes)
  segment-made b size is made done = placed (λ h. grown h b all_marks) (created is made) (segment-is bytes b size) done

  pub filled-made : {t : Spaces} → s ≡ alone frames (segment bytes) → t ≡ with_view s 0 (written (view_at s 0) 0 bytes)
      → t ≡ alone frames (filled_segment bytes)
  filled-made is done = placed (λ h. written h 0 bytes) is (filled-is bytes) done

  pub guard-made : {t : Spaces} → s ≡ alone frames (filled_segment bytes)
      → t ≡ with_view s 0 (grown (view_at s 0) 4096 (stack_marks false)) → t ≡ alone frames (guarded bytes)
  guard-made is done = placed (λ h. grown h 4096 (stack_marks false)) is (guarded-is bytes) done

  pub guard-over : s ≡ alone frames (filled_segment bytes)
      → s.frames < taken_frames (with_view s 0 (grown (view_at s 0) 4096 (stack_marks false)))
      → frames < 4 + page_frames (length (flat_memory bytes))
  guard-over is full =
      over (λ h. grown h 4096 (stack_marks false)) is (guarded-is bytes) bytes
      (rw (
        length-flat bytes,
        length-append (flat_pages bytes) (zero_page (stack_marks false) ∷ []),
        length-pages all_marks (program_pages bytes) bytes,
      ) (omega arith)) full

  -- the bytes are within the pages
  pub fill-inside : s ≡ alone frames (segment bytes) → (i : ℕ) → i < length bytes
      → (0 + i) / 4096 < length (view_at s 0).memory
  fill-inside is i less = rw (is, length-replicate (program_pages bytes) (zero_page all_marks)) (omega (arith, less))

-- whether there are frames for the page of the stack after the guard page
pub flat-loaded : (bytes : List ℕ) (old s t : Spaces) → s ≡ alone old.frames (guarded bytes) → (r : Bool)
    → OnTrue r ((taken_frames (with_stack_page s) ≤ s.frames) × (t ≡ with_stack_page s))
    → OnFalse r ((s.frames < taken_frames (with_stack_page s)) × (t ≡ s)) → LoadsFlat bytes old t r
flat-loaded bytes old s t is true done full =
    let fits = takes (λ h. grown h 4096 (stack_marks true)) is (stacked-is bytes) in (
      placed (λ h. grown h 4096 (stack_marks true)) is (stacked-is bytes) done.1,
      omega (arith, done.0, fits, ap (λ (x : Spaces). x.frames) is),
    )
flat-loaded bytes old s t is false done full =
    over (λ h. grown h 4096 (stack_marks true)) is (stacked-is bytes) bytes (omega arith) full.0

pub outside : (frames : ℕ) → 64 ≤ frames → frames ≤ 32768 → (frames < 64) ⊎ (32768 < frames) → ⊥
outside frames least most (inl low) = omega (arith, low, least)
outside frames least most (inr high) = omega (arith, high, most)

-- where the count of frames is in range the fault isn't `FrameCount`
pub counted-flat : {M : Type 0} (frames : ℕ) → 64 ≤ frames → frames ≤ 32768 → (r : Result M BootFault)
    → OnErr r (IsErrOf r NoInit ⊎ IsErrOf r NoMemory) → IsErrOf r FrameCount ↔ ((frames < 64) ⊎ (32768 < frames))
counted-flat {M} frames least most r only = (
  λ e. absurd (other e (subst (λ (x : Result M BootFault). OnErr x (IsErrOf r NoInit ⊎ IsErrOf r NoMemory)) e
      only)),
  λ out. absurd (outside frames least most out),
) where
  other : IsErrOf r FrameCount → (IsErrOf r NoInit ⊎ IsErrOf r NoMemory) → ⊥
  other e (inl i) = cc
  other e (inr i) = cc

pub only-flat : {M : Type 0} (r : Result M BootFault) → OnErr r (IsErrOf r NoInit ⊎ IsErrOf r NoMemory) → RefusesFlat r
only-flat (Ok m) only = tt
only-flat (Err f) only = inr only
